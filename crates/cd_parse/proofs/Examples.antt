-- Statements, and the first wrong token of others.
use Rattle.std.proofs.Common.{◌++◌, ◌∷◌, [], true, false, Some, refl, codes}
use Rattle.cd_parse.specs.declared.terminal.Terminal.TheVariants.{Word, Upper, Digits, Foreign, Sign}
use Rattle.cd_parse.specs.declared.terminal.Foreign.TheVariants as foreign
use Rattle.cd_parse.specs.declared.terminal.Sign.TheVariants.{Left, Right, OpenSquare, CloseSquare, Comma, Dot, Equal, Tilde, Bar}
use Rattle.cd_parse.specs.declared.label.Label.TheVariants as label
use Rattle.cd_parse.specs.declared.label.Role.TheVariants as role
use Rattle.cd_parse.specs.declared.label.What.TheVariants as what
use Rattle.cd_parse.specs.declared.statement.Statement.TheVariants.{Clause, Include}
use Rattle.cd_parse.specs.Grammar.{Terminals}
use Rattle.cd_parse.specs.Statements.{keyword, IsFront, IsWrong}
use Rattle.cd_parse.specs.Steps.{run}
use Rattle.cd_parse.specs.Stages.{walk}
use Rattle.cd_parse.specs.declared.tree.Tree.TheVariants.{Var, App}
use Rattle.cd_parse.specs.declared.tree.TreeAtom.TheVariants as atom
use Rattle.cd_parse.specs.Grammar.{literal}
use Rattle.cd_parse.specs.Statements.{IsStatement}
use Rattle.cd_parse.proofs.WalkBack.{from_start}
use Rattle.cd_parse.proofs.Could.{is_front}
use Rattle.cd_parse.proofs.Names.{kinds}

begin : Terminals
begin = keyword (codes "cnf") ∷ Sign Left ∷ Word false (codes "a") ∷ Sign Comma ∷ keyword (codes "axiom") ∷ Sign Comma ∷ []

-- cnf(a,axiom,p("x")). and cnf(a,axiom,p(1)).
object : IsWrong (begin ++ Word false (codes "p") ∷ Sign Left ∷ []) (Foreign foreign.Object) what.Object
unfolding walk begin
object = kinds _ _ _ _ refl tt refl

number : IsWrong (begin ++ Word false (codes "p") ∷ Sign Left ∷ []) (Digits (codes "1")) what.Number
unfolding walk begin
number = kinds _ _ _ _ refl tt refl

-- cnf(a,axiom,$less(a,b)).
dollar : IsWrong begin (Foreign foreign.Dollar) what.Dollar
unfolding walk begin
dollar = kinds _ _ _ _ refl tt refl

-- fof(a,axiom,p).
language : IsWrong [] (Word false (codes "fof")) what.Language
unfolding walk
language = kinds _ _ _ _ refl tt refl

-- cnf(a,conjecture,p).
wrong_role : IsWrong (keyword (codes "cnf") ∷ Sign Left ∷ Word false (codes "a") ∷ Sign Comma ∷ []) (Word false (codes "conjecture")) what.Role
unfolding walk
wrong_role = kinds _ _ _ _ refl tt refl

-- cnf(a,axiom,p and no more
early_end : IsFront (begin ++ Word false (codes "p") ∷ [])
unfolding walk begin
early_end = is_front 1000 _ _ refl tt

-- cnf('ax 1',axiom,( ( ~ (p(X)) | ~ X = a ) ),file('x',unknown),[k]).
lenient_tokens : Terminals
lenient_tokens = keyword (codes "cnf") ∷ Sign Left ∷ Word true (codes "ax 1") ∷ Sign Comma ∷ keyword (codes "axiom") ∷ Sign Comma
    ∷ Sign Left ∷ Sign Left ∷ Sign Tilde ∷ Sign Left ∷ Word false (codes "p") ∷ Sign Left ∷ Upper (codes "X") ∷ Sign Right ∷ Sign Right
    ∷ Sign Bar ∷ Sign Tilde ∷ Upper (codes "X") ∷ Sign Equal ∷ Word false (codes "a") ∷ Sign Right ∷ Sign Right ∷ Sign Comma
    ∷ Word false (codes "file") ∷ Sign Left ∷ Word true (codes "x") ∷ Sign Comma ∷ Word false (codes "unknown") ∷ Sign Right ∷ Sign Comma
    ∷ Sign OpenSquare ∷ Word false (codes "k") ∷ Sign CloseSquare ∷ Sign Right ∷ Sign Dot ∷ []

lenient : IsStatement lenient_tokens (Clause (label.Word (codes "ax 1")) role.Axiom
    (literal false (atom.Pred (codes "p") (Var (codes "X") ∷ [])) ∷ literal false (atom.Equal (Var (codes "X")) (App (codes "a") [])) ∷ []))
unfolding walk run lenient_tokens
lenient = from_start 1000 lenient_tokens _ refl

-- include('u.p',[7]).
include : IsStatement (keyword (codes "include") ∷ Sign Left ∷ Word true (codes "u.p") ∷ Sign Comma ∷ Sign OpenSquare ∷ Digits (codes "7") ∷ Sign CloseSquare ∷ Sign Right ∷ Sign Dot ∷ [])
    (Include (codes "u.p") (Some (label.Integer (codes "7") ∷ [])))
unfolding walk
include = from_start 1000 _ _ refl
