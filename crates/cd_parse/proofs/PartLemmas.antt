-- The reader of a part, put together.
use Rattle.std.proofs.Common.{Result, ◌≡◌, ◌≢◌, ◌∙◌, ◌⊎◌, inl, inr, ◌++◌, ◌∷◌, ◌+◌, ◌<◌, ◌≤◌, [], ℕ, suc, true, List, None, Ok, Err, refl, sym, ap, subst, codes, length, map, arith}
use Rattle.std.proofs.lemmas.List.{map-append, length-append}
use Rattle.cd_lex.specs.Bytes.{Bytes}
use Rattle.cd_lex.specs.Next.{token, nothing, IsNext}
use Rattle.cd_lex.specs.Next as next
use Rattle.cd_lex.specs.declared.TokenKind.{TokenKind}
use Rattle.cd_lex.specs.declared.LexFault.{LexFault}
use Rattle.cd_parse.specs.declared.terminal.Terminal.{Terminal}
use Rattle.cd_parse.specs.declared.terminal.Terminal.TheVariants.{Word, Sign}
use Rattle.cd_parse.specs.declared.terminal.Sign.TheVariants.{Left, Right, Dot}
use Rattle.cd_parse.specs.declared.label.What.{What}
use Rattle.cd_parse.specs.declared.label.What.TheVariants as what
use Rattle.cd_parse.specs.declared.statement.Statement.{Statement}
use Rattle.cd_parse.specs.declared.statement.Statement.TheVariants.{Clause, Include}
use Rattle.cd_parse.specs.Grammar.{Terminals}
use Rattle.cd_parse.specs.Statements.{IsStatementIn, clause, whole, listed, keyword}
use Rattle.cd_parse.specs.declared.label.Label.{Label}
use Rattle.cd_parse.specs.declared.label.Role.{Role}
use Rattle.cd_parse.specs.declared.tree.TreeLiteral.{TreeLiteral}
use Rattle.cd_parse.specs.Stages.{Stage, Begin, Path, BehindPath, Formula, Done, Advance, to, wrong, advance, walk, walk_on}
use Rattle.cd_parse.specs.Parts.{Opens, Placed, terminals, terminal_of, Tokens, none, further, statement, over, broken, IsPart, PathMay, IsPath, IsWrongPath, MayInclude, what_of, Breaks}
use Rattle.cd_parse.specs.Trees.{literals_size}
use Rattle.cd_parse.specs.Bare.{bare_statement, bare_stage, statement_size, stage_size, counted}
use Rattle.cd_parse.specs.Reading.{Begun, Counts, Passes, IsOpen, IsRead, IsWhole, IsOversized, IsBehind, Goes, TakesToken, EndsWith, Ends}
use Rattle.cd_parse.proofs.Bare.{bare_advance, advance_bare, AdvanceGrows, advance_grows}
use Rattle.cd_parse.specs.Code.{stage_of, StageFits}
use Rattle.cd_parse.specs.declared.part.Progress.{Progress}
use Rattle.cd_parse.specs.declared.part.PartFault.{PartFault}
use Rattle.cd_parse.specs.declared.part.PartFault.TheVariants as failure
use Rattle.cd_parse.specs.declared.part.Found.{Found}
use Rattle.cd_parse.specs.declared.part.Found.TheVariants as found
use Rattle.cd_parse.proofs.Names.{kinds}
use Rattle.cd_parse.proofs.WalkForth.{walks, walk-append}
use Rattle.cd_parse.proofs.WalkBack.{from_start}
use Rattle.cd_parse.proofs.Could.{is_front}

-- ---- a path

other : {A : Type 0} → (n : ℕ) → n ≡ 5 → (n ≡ 5 → ⊥) → A
other n e wrong_length = absurd (wrong_length e)

-- where a path was taken, `include(` stands before it
two_before : (front : Terminals) (t : Terminal) (p : List ℕ)
    → front ++ t ∷ Sign Right ∷ Sign Dot ∷ [] ≡ keyword (codes "include") ∷ Sign Left ∷ Word true p ∷ Sign Right ∷ Sign Dot ∷ []
    → IsPath front t p
two_before [] t p e = other 3 (ap (λ (ts : Terminals). length ts) e) (λ h. cc)
two_before (a ∷ []) t p e = other 4 (ap (λ (ts : Terminals). length ts) e) (λ h. cc)
two_before (a ∷ b ∷ []) t p e = (cc, cc)
two_before (a ∷ b ∷ c ∷ rest) t p e =
    other (suc (suc (suc (length (rest ++ t ∷ Sign Right ∷ Sign Dot ∷ []))))) (ap (λ (ts : Terminals). length ts) e)
    (λ h. omega (arith, h, length-append rest (t ∷ Sign Right ∷ Sign Dot ∷ [])))

path_of : (front ts : Terminals) (t : Terminal) (p : List ℕ) (s : Statement) → IsStatementIn 1000 ts s
    → ts ≡ front ++ t ∷ Sign Right ∷ Sign Dot ∷ [] → s ≡ Include p None → IsPath front t p
path_of front _ t p _ (clause u l r vs ns ls d f k) e is = absurd (cc)
path_of front _ t p _ (whole q) e is = let same : q ≡ p = cc in subst (IsPath front t) same (two_before front t q (sym e))
path_of front _ t p _ (listed q vs ls d) e is = absurd (cc)

pub is_path : (front : Terminals) (st : Stage) (t : Terminal) (p : List ℕ) → walk 1000 Begin front ≡ to st
    → advance 1000 st t ≡ to (BehindPath p) → IsPath front t p
unfolding walk
is_path front st t p e f = path_of front _ t p (Include p None)
    (from_start 1000 (front ++ t ∷ Sign Right ∷ Sign Dot ∷ []) (Include p None)
    (walk-append 1000 Begin front (t ∷ Sign Right ∷ Sign Dot ∷ []) ∙ ap (λ a. walks 1000 a (t ∷ Sign Right ∷ Sign Dot ∷ [])) e ∙ ap (λ a. walks 1000 a (Sign Right ∷ Sign Dot ∷ [])) f))
    refl refl

-- a token at the end, or before it
last_or : (before behind front : Terminals) (x t : Terminal) → front ++ t ∷ [] ≡ before ++ x ∷ behind
    → ((front ≡ before) × (t ≡ x)) ⊎ ((rest : Terminals) × (front ≡ before ++ x ∷ rest))
last_or [] [] [] x t e = inl (refl, cc)
last_or [] (b ∷ behind) [] x t e = absurd (cc)
last_or [] behind (f ∷ front) x t e = let same : f ≡ x = cc in inr (front, ap (λ (y : Terminal). y ∷ front) same)
last_or (b ∷ before) behind [] x t e = go before (ap tail e)
  where
    tail : Terminals → Terminals
    tail [] = []
    tail (y ∷ ys) = ys

    go : (bs : Terminals) → [] ≡ bs ++ x ∷ behind → (([] ≡ b ∷ before) × (t ≡ x)) ⊎ ((rest : Terminals) × ([] ≡ b ∷ (before ++ x ∷ rest)))
    go [] h = absurd (cc)
    go (y ∷ ys) h = absurd (cc)
last_or (b ∷ before) behind (f ∷ front) x t e = go (last_or before behind front x t (ap tail e))
  where
    tail : Terminals → Terminals
    tail [] = []
    tail (y ∷ ys) = ys

    same : f ≡ b
    same = cc

    go : ((front ≡ before) × (t ≡ x)) ⊎ ((rest : Terminals) × (front ≡ before ++ x ∷ rest))
        → ((f ∷ front ≡ b ∷ before) × (t ≡ x)) ⊎ ((rest : Terminals) × (f ∷ front ≡ b ∷ (before ++ x ∷ rest)))
    go (inl (i, j)) = inl (cc, j)
    go (inr (rest, i)) = inr (rest, cc)

may_more : (opens : Opens) (front : Terminals) (t : Terminal) (st st' : Stage) → PathMay opens front → walk 1000 Begin front ≡ to st
    → advance 1000 st t ≡ to st' → Passes opens st' → PathMay opens (front ++ t ∷ [])
unfolding walk
may_more opens front t st st' m e f pass =
    record { may = λ before behind x p split is. go before x p is (last_or before behind front x t split) }
  where
    go : (before : Terminals) (x : Terminal) (p : List ℕ) → IsPath before x p
        → ((front ≡ before) × (t ≡ x)) ⊎ ((rest : Terminals) × (front ≡ before ++ x ∷ rest)) → MayInclude opens p
    go before x p is (inr (rest, i)) = m.may before rest x p i is
    go before x p is (inl (i, j)) =
        let at : to Path ≡ to st = ap (walk 1000 Begin) (sym (i ∙ is.0)) ∙ e in
        let here : to (BehindPath p) ≡ to st' = ap (λ a. walk_on a (λ s. advance 1000 s (Word true p))) at ∙ ap (advance 1000 st) (sym (j ∙ is.1)) ∙ f in
        subst (λ (a : Advance). At a) (sym here) pass
      where
        At : Advance → Type 0
        At (to s) = Passes opens s
        At (wrong w) = ⊥

-- ---- what the reader holds, and where the machine is

abbrev stage_at : Advance → Stage
stage_at (to st) = st
stage_at (wrong w) = Begin

of_bare : (opens : Opens) (st : Stage) → Passes opens (bare_stage st) → Passes opens st
of_bare opens (BehindPath p) h = h
of_bare opens st h = tt

to_bare : (opens : Opens) (st : Stage) → Passes opens st → Passes opens (bare_stage st)
to_bare opens (BehindPath p) h = h
to_bare opens st h = tt

passes_too : (opens : Opens) (st held : Stage) → bare_stage st ≡ bare_stage held → Passes opens held → Passes opens st
passes_too opens st held same h = of_bare opens st (subst (Passes opens) (sym same) (to_bare opens held h))

open_of_bare : (st : Stage) → IsOpen (bare_stage st) → IsOpen st
open_of_bare (Done s) h = h
open_of_bare st h = tt

open_to_bare : (st : Stage) → IsOpen st → IsOpen (bare_stage st)
open_to_bare (Done s) h = h
open_to_bare st h = tt

open_too : (st held : Stage) → bare_stage st ≡ bare_stage held → IsOpen held → IsOpen st
open_too st held same h = open_of_bare st (subst IsOpen (sym same) (open_to_bare held h))

counted_bare : (st : Stage) (t : Terminal) → counted (bare_stage st) t ≡ counted st t
counted_bare (Formula l r m) t = refl
counted_bare st t = refl

counted_too : (st held : Stage) (t : Terminal) → bare_stage st ≡ bare_stage held → counted st t ≡ counted held t
counted_too st held t same = sym (counted_bare st t) ∙ ap (λ (s : Stage). counted s t) same ∙ counted_bare held t

-- a token leads both to the same, but for texts and trees
both_lead : (st held : Stage) (t : Terminal) → bare_stage st ≡ bare_stage held
    → bare_advance (advance 1000 st t) ≡ bare_advance (advance 1000 held t)
both_lead st held t same =
    advance_bare 1000 st t ∙ ap (λ (s : Stage). bare_advance (advance 1000 s t)) same ∙ sym (advance_bare 1000 held t)

leads_too : (st held next : Stage) (t : Terminal) → bare_stage st ≡ bare_stage held → advance 1000 held t ≡ to next
    → (reached : Stage) × (advance 1000 st t ≡ to reached) × (bare_stage reached ≡ bare_stage next)
leads_too st held next t same f = go (advance 1000 st t) refl (both_lead st held t same ∙ ap bare_advance f)
  where
    go : (a : Advance) → advance 1000 st t ≡ a → bare_advance a ≡ to (bare_stage next)
        → (reached : Stage) × (advance 1000 st t ≡ to reached) × (bare_stage reached ≡ bare_stage next)
    go (to s) e h = (s, e, ap stage_at h)
    go (wrong w) e h = absurd (cc)

wrong_too : (st held : Stage) (t : Terminal) (w : What) → bare_stage st ≡ bare_stage held → advance 1000 held t ≡ wrong w
    → advance 1000 st t ≡ wrong w
wrong_too st held t w same f = go (advance 1000 st t) (both_lead st held t same ∙ ap bare_advance f)
  where
    go : (a : Advance) → bare_advance a ≡ wrong w → a ≡ wrong w
    go (to s) h = absurd (cc)
    go (wrong v) h = h

path_too : (st : Stage) (p : List ℕ) → bare_stage st ≡ BehindPath p → st ≡ BehindPath p
path_too (BehindPath q) p h = h
path_too st p h = absurd (cc)

done_too : (st : Stage) (s : Statement) → bare_stage st ≡ Done (bare_statement s) → (u : Statement) × (st ≡ Done u)
done_too (Done u) s h = (u, refl)
done_too st s h = absurd (cc)

-- ---- the tokens so far

pub begun_none : (opens : Opens) (bytes : Bytes) (from : ℕ) → Begun opens bytes from [] Begin 0 from
unfolding walk
begun_none opens bytes from = record {
  tokens = [];
  are = none;
  places = refl;
  may = record { may = λ before behind t p e is. no before behind t e };
  reached = Begin;
  walks = refl;
  bare = refl;
  exact = λ h. refl;
  many = omega arith;
}
  where
    no : {A : Type 0} → (before behind : Terminals) (t : Terminal) → [] ≡ before ++ t ∷ behind → A
    no [] behind t e = absurd (cc)
    no (b ∷ bs) behind t e = absurd (cc)

pub begun_more : (opens : Opens) (bytes : Bytes) (from : ℕ) (starts : List ℕ) (held held' next : Stage) (words words' at start : ℕ) (k : TokenKind) (text : Bytes)
    → Begun opens bytes from starts held words at → IsNext bytes at (token k start text)
    → Counts words words' held held' (terminal_of k text)
    → advance 1000 held' (terminal_of k text) ≡ to next → Passes opens next
    → Begun opens bytes from (starts ++ start ∷ []) next words' (start + length text)
unfolding walk
begun_more opens bytes from starts held held' next words words' at start k text b n c f pass =
    let t : Terminal = terminal_of k text in
    let p : Placed = record { terminal = t; start = start } in
    let split : terminals (b.tokens ++ p ∷ []) ≡ terminals b.tokens ++ t ∷ [] = map-append (λ (q : Placed). q.terminal) b.tokens (p ∷ []) in
    let (reached, leads, same) = leads_too b.reached held' next t (b.bare ∙ sym c.bare) f in
    let grown : AdvanceGrows (stage_size b.reached + counted b.reached t) (to reached) = subst (AdvanceGrows (stage_size b.reached + counted b.reached t)) leads (advance_grows 1000 b.reached t) in
    record {
      tokens = b.tokens ++ p ∷ [];
      are = further b.tokens at k start text b.are n;
      places = ap (λ (ss : List ℕ). ss ++ start ∷ []) b.places ∙ sym (map-append (λ (q : Placed). q.start) b.tokens (p ∷ []));
      may = subst (PathMay opens) (sym split) (may_more opens (terminals b.tokens) t b.reached reached b.may b.walks leads (passes_too opens reached next same pass));
      reached = reached;
      walks = ap (walk 1000 Begin) split ∙ walk-append 1000 Begin (terminals b.tokens) (t ∷ []) ∙ ap (λ a. walks 1000 a (t ∷ [])) b.walks
          ∙ ap (λ a. walks 1000 a []) leads;
      bare = same;
      exact = λ le. ap stage_at (sym leads ∙ ap (λ (s : Stage). advance 1000 s t) (b.exact (omega (arith, le, c.later)) ∙ sym (c.exact le)) ∙ f);
      many = omega (arith, b.many, c.few, grown, counted_too b.reached held t b.bare);
    }

pub begun_done : (opens : Opens) (bytes : Bytes) (from : ℕ) (starts : List ℕ) (s : Statement) (words at : ℕ)
    → Begun opens bytes from starts (Done s) words at → words ≤ 65535
    → (ps : List Placed) × (starts ≡ map (λ p. p.start) ps) × IsPart opens bytes from (statement s ps at)
begun_done opens bytes from starts s words at b le =
    (b.tokens, b.places, (b.are, from_start 1000 (terminals b.tokens) s (b.walks ∙ ap (λ (st : Stage). to st) (b.exact le)), b.may))

pub begun_oversized : (opens : Opens) (bytes : Bytes) (from : ℕ) (starts : List ℕ) (s : Statement) (words at : ℕ)
    → Begun opens bytes from starts (Done s) words at → 65535 < words
    → (l : Label) × (r : Role) × (ls : List TreeLiteral) × ((ps : List Placed) × (starts ≡ map (λ p. p.start) ps) × IsPart opens bytes from (statement (Clause l r ls) ps at)) × (65535 < literals_size ls)
begun_oversized opens bytes from starts s words at b much =
    go u.0 (b.walks ∙ ap (λ (st : Stage). to st) u.1) (subst (λ (st : Stage). words ≤ stage_size st) u.1 b.many)
  where
    u : (v : Statement) × (b.reached ≡ Done v)
    u = done_too b.reached s b.bare

    go : (v : Statement) → walk 1000 Begin (terminals b.tokens) ≡ to (Done v) → words ≤ statement_size v
        → (l : Label) × (r : Role) × (ls : List TreeLiteral) × ((ps : List Placed) × (starts ≡ map (λ p. p.start) ps) × IsPart opens bytes from (statement (Clause l r ls) ps at)) × (65535 < literals_size ls)
    go (Clause l r ls) e le =
        (l, r, ls, (b.tokens, b.places, (b.are, from_start 1000 (terminals b.tokens) (Clause l r ls) e, b.may)), omega (arith, much, le))
    go (Include p only) e le = absurd (omega (arith, much, le))

pub begun_breaks : (opens : Opens) (bytes : Bytes) (from : ℕ) (starts : List ℕ) (held : Stage) (words at : ℕ) (n : next.Next) (w : What) (place : ℕ)
    → (b : Begun opens bytes from starts held words at) → IsOpen held → IsNext bytes at n
    → Breaks opens (length bytes) (terminals b.tokens) n w place
    → IsPart opens bytes from (broken w place)
begun_breaks opens bytes from starts held words at n w place b o is br =
    (b.tokens, at, n, b.are, is_front 1000 (terminals b.tokens) b.reached b.walks (open_too b.reached held b.bare o), b.may, is, br)

pub begun_fault : (opens : Opens) (bytes : Bytes) (from : ℕ) (starts : List ℕ) (held : Stage) (words at : ℕ) (f : LexFault) (w : What) (place : ℕ)
    → Begun opens bytes from starts held words at → IsOpen held → IsNext bytes at (next.fault f) → what_of f ≡ (w, place)
    → IsPart opens bytes from (broken w place)
begun_fault opens bytes from starts held words at f w place b o is e =
    begun_breaks opens bytes from starts held words at (next.fault f) w place b o is e

pub begun_wrong : (opens : Opens) (bytes : Bytes) (from : ℕ) (starts : List ℕ) (held held' : Stage) (words words' at start : ℕ) (k : TokenKind) (text : Bytes) (w : What)
    → Begun opens bytes from starts held words at → IsOpen held → IsNext bytes at (token k start text)
    → Counts words words' held held' (terminal_of k text)
    → (advance 1000 held' (terminal_of k text) ≡ wrong w) ⊎ ((p : List ℕ) × (advance 1000 held' (terminal_of k text) ≡ to (BehindPath p)) × IsWrongPath opens p w)
    → IsPart opens bytes from (broken w start)
begun_wrong opens bytes from starts held held' words words' at start k text w b o is c (inl e) =
    begun_breaks opens bytes from starts held words at (token k start text) w start b o is
    (refl, inl (kinds (terminals b.tokens) b.reached (terminal_of k text) w b.walks (open_too b.reached held b.bare o) (wrong_too b.reached held' (terminal_of k text) w (b.bare ∙ sym c.bare) e)))
begun_wrong opens bytes from starts held held' words words' at start k text w b o is c (inr (p, e, f)) =
    let (reached, leads, same) = leads_too b.reached held' (BehindPath p) (terminal_of k text) (b.bare ∙ sym c.bare) e in
    begun_breaks opens bytes from starts held words at (token k start text) w start b o is
    (refl, inr (p, is_path (terminals b.tokens) b.reached (terminal_of k text) p b.walks (leads ∙ ap (λ (s : Stage). to s) (path_too reached p same)), f))

pub begun_end : (opens : Opens) (bytes : Bytes) (from : ℕ) (starts : List ℕ) (held : Stage) (words at : ℕ)
    → Begun opens bytes from starts held words at → IsOpen held → IsNext bytes at nothing
    → starts ≢ [] → IsPart opens bytes from (broken what.Syntax (length bytes))
begun_end opens bytes from starts held words at b o is some =
    begun_breaks opens bytes from starts held words at nothing what.Syntax (length bytes) b o is
    (λ e. some (b.places ∙ none_of b.tokens e), refl, refl)
  where
    none_of : (ps : List Placed) → terminals ps ≡ [] → map (λ p. p.start) ps ≡ []
    none_of [] e = refl
    none_of (p ∷ ps) e = absurd (cc)

pub begun_over : (opens : Opens) (bytes : Bytes) (from : ℕ) (held : Stage) (words at : ℕ) → Begun opens bytes from [] held words at
    → IsNext bytes at nothing → IsPart opens bytes from over
begun_over opens bytes from held words at b is = subst (λ (n : ℕ). IsNext bytes n nothing) (at_from b.tokens at b.are b.places) is
  where
    at_from : (ps : List Placed) (n : ℕ) → Tokens bytes from ps n → [] ≡ map (λ p. p.start) ps → n ≡ from
    at_from _ _ none e = refl
    at_from _ _ (further qs mid k start text d i) e = go qs e
      where
        go : (rs : List Placed) → [] ≡ map (λ p. p.start) (rs ++ record { terminal = terminal_of k text; start = start } ∷ [])
            → start + length text ≡ from
        go [] h = absurd (cc)
        go (r ∷ rs) h = absurd (cc)

-- ---- what the code answers

abbrev Front : Opens → Bytes → Progress → Type 0
Front opens bytes p = Begun opens bytes p.from p.starts (stage_of p.stage) p.words p.at

pub turn_fault : (opens : Opens) (bytes : Bytes) (p q : Progress) (f : LexFault) (w : What) (place : ℕ) → Front opens bytes p
    → IsOpen (stage_of p.stage)
    → IsNext bytes p.at (next.fault f) → (w, place) ≡ what_of f → Goes opens bytes p q (Err (failure.Wrong w place))
unfolding Goes
turn_fault opens bytes p q f w place b o is e =
    begun_fault opens bytes p.from p.starts (stage_of p.stage) p.words p.at f w place b o is (sym e)

pub turn_memory : (opens : Opens) (bytes : Bytes) (p q : Progress) → Goes opens bytes p q (Err failure.Memory)
unfolding Goes
turn_memory opens bytes p q = tt

pub turn_nothing : (opens : Opens) (bytes : Bytes) (p q : Progress) (r : Result Found PartFault) → Front opens bytes p
    → IsOpen (stage_of p.stage)
    → IsNext bytes p.at nothing → EndsWith p.starts (length bytes) r → Goes opens bytes p q r
unfolding Goes
turn_nothing opens bytes p q (Ok found.More) b o is e = absurd e
turn_nothing opens bytes p q (Ok (found.Statement s)) b o is e = absurd e
turn_nothing opens bytes p q (Ok found.Oversized) b o is e = absurd e
turn_nothing opens bytes p q (Ok found.Over) b o is e =
    begun_over opens bytes p.from (stage_of p.stage) p.words p.at
    (subst (λ (ss : List ℕ). Begun opens bytes p.from ss (stage_of p.stage) p.words p.at) e b) is
turn_nothing opens bytes p q (Err (failure.Wrong w at)) b o is (some, e, f) =
    subst (λ (n : ℕ). IsPart opens bytes p.from (broken w n)) (sym f)
    (subst (λ (v : What). IsPart opens bytes p.from (broken v (length bytes))) (sym e)
    (begun_end opens bytes p.from p.starts (stage_of p.stage) p.words p.at b o is some))
turn_nothing opens bytes p q (Err failure.Memory) b o is e = tt

-- the tokens up to the end of the last one
stands : (opens : Opens) (bytes : Bytes) (p q : Progress) (held : Stage) (start end : ℕ) (text : Bytes) → end ≡ start + length text
    → IsBehind p q start end
    → Begun opens bytes p.from (p.starts ++ start ∷ []) held q.words (start + length text)
    → Begun opens bytes q.from q.starts held q.words q.at
stands opens bytes p q held start end text e (ss, at, same) b =
    subst (λ (f : ℕ). Begun opens bytes f q.starts held q.words q.at) (sym same)
    (subst (λ (n : ℕ). Begun opens bytes p.from q.starts held q.words n) (sym (at ∙ e))
    (subst (λ (l : List ℕ). Begun opens bytes p.from l held q.words (start + length text)) (sym ss) b))

-- a token was counted and taken, and then the statement is over or not
pub token_taken : (opens : Opens) (p q : Progress) (t : Terminal) (start end : ℕ) (m : Progress) (held : Stage)
    → Counts p.words m.words (stage_of p.stage) held t → IsBehind p m start end
    → advance 1000 held t ≡ to (stage_of m.stage) → Passes opens (stage_of m.stage) → StageFits m.stage → (f : Found) → Ends m q f
    → TakesToken opens p q t start end (Ok f)
token_taken opens p q t start end m held c behind leads pass fits found.More (same, open_) =
    subst (λ (x : Progress). TakesToken opens p x t start end (Ok found.More)) (sym same) (held, c, behind, open_, fits, leads, pass)
token_taken opens p q t start end m held c behind leads pass fits (found.Statement s) (same, done, few) =
    subst (λ (x : Progress). TakesToken opens p x t start end (Ok (found.Statement s))) (sym same)
    (held, c, behind, refl, leads ∙ ap (λ (s : Stage). to s) done, few)
token_taken opens p q t start end m held c behind leads pass fits found.Oversized (same, (s, done), much) =
    subst (λ (x : Progress). TakesToken opens p x t start end (Ok found.Oversized)) (sym same)
    (held, c, behind, refl, (s, leads ∙ ap (λ (s : Stage). to s) done), much)
token_taken opens p q t start end m held c behind leads pass fits found.Over ends_ = absurd ends_

pub turn_token : (opens : Opens) (bytes : Bytes) (p q : Progress) (k : TokenKind) (start : ℕ) (text : Bytes) (end : ℕ) (r : Result Found PartFault) → Front opens bytes p
    → IsOpen (stage_of p.stage) → IsNext bytes p.at (token k start text) → p.at < end → end ≤ length bytes → end ≡ start + length text
    → TakesToken opens p q (terminal_of k text) start end r → Goes opens bytes p q r
unfolding Goes
turn_token opens bytes p q k start text end (Ok found.More) b o is ahead within e (st, c, behind, open_, fits, adv, pass) =
    let more = begun_more opens bytes p.from p.starts (stage_of p.stage) st (stage_of q.stage) p.words q.words p.at start k text b is c adv pass in
    (omega (arith, behind.1), omega (arith, behind.1), open_, fits, behind.2, stands opens bytes p q (stage_of q.stage) start end text e behind more)
turn_token opens bytes p q k start text end (Ok (found.Statement s)) b o is ahead within e (st, c, behind, begin, adv, few) =
    let more = begun_more opens bytes p.from p.starts (stage_of p.stage) st (Done s) p.words q.words p.at start k text b is c adv tt in
    let all = begun_done opens bytes q.from q.starts s q.words q.at (stands opens bytes p q (Done s) start end text e behind more) few in (
      omega (arith, behind.1),
      (
        omega (arith, behind.1),
        begin,
        subst (λ (n : ℕ). (ps : List Placed) × (q.starts ≡ map (λ x. x.start) ps) × IsPart opens bytes n (statement s ps q.at)) behind.2 all,
      ),
    )
turn_token opens bytes p q k start text end (Ok found.Oversized) b o is ahead within e (st, c, behind, begin, (s, adv), much) =
    let more = begun_more opens bytes p.from p.starts (stage_of p.stage) st (Done s) p.words q.words p.at start k text b is c adv tt in
    let (l, r, ls, all, large) = begun_oversized opens bytes q.from q.starts s q.words q.at (stands opens bytes p q (Done s) start end text e behind more) much in (
      omega (arith, behind.1),
      (
        l,
        r,
        ls,
        (
          omega (arith, behind.1),
          begin,
          subst (λ (n : ℕ). (ps : List Placed) × (q.starts ≡ map (λ x. x.start) ps) × IsPart opens bytes n (statement (Clause l r ls) ps q.at)) behind.2 all,
        ),
        large,
      ),
    )
turn_token opens bytes p q k start text end (Ok found.Over) b o is ahead within e h = absurd h
turn_token opens bytes p q k start text end (Err (failure.Wrong w at)) b o is ahead within e (st, c, (same, h)) =
    subst (λ (n : ℕ). IsPart opens bytes p.from (broken w n)) (sym same)
    (begun_wrong opens bytes p.from p.starts (stage_of p.stage) st p.words q.words p.at start k text w b o is c h)
turn_token opens bytes p q k start text end (Err failure.Memory) b o is ahead within e h = tt

-- ---- the loop

pub goes_more : (opens : Opens) (bytes : Bytes) (p q : Progress) (r : Result Found PartFault) → r ≡ Ok found.More → Goes opens bytes p q r
    → (p.at < q.at) × (q.at ≤ length bytes) × IsOpen (stage_of q.stage) × StageFits q.stage × (q.from ≡ p.from) × Begun opens bytes q.from q.starts (stage_of q.stage) q.words q.at
unfolding Goes
goes_more opens bytes p q r e h = subst (Goes opens bytes p q) e h

-- what the last turn gives is what was read
pub goes_read : (opens : Opens) (bytes : Bytes) (p q : Progress) (r : Result Found PartFault) (from : ℕ) → p.from ≡ from → p.from ≤ p.at
    → (r ≡ Ok found.More → ⊥) → Goes opens bytes p q r → IsRead opens bytes from q r
unfolding Goes IsRead
goes_read opens bytes p q (Ok found.More) from e later other h = absurd (other refl)
goes_read opens bytes p q (Ok (found.Statement s)) from e later other (ahead, h) =
    (omega (arith, e, later, ahead), subst (λ (n : ℕ). IsWhole opens bytes n q s) e h)
goes_read opens bytes p q (Ok found.Oversized) from e later other (ahead, h) =
    (omega (arith, e, later, ahead), subst (λ (n : ℕ). IsOversized opens bytes n q) e h)
goes_read opens bytes p q (Ok found.Over) from e later other h = subst (λ (n : ℕ). IsPart opens bytes n over) e h
goes_read opens bytes p q (Err (failure.Wrong w at)) from e later other h = subst (λ (n : ℕ). IsPart opens bytes n (broken w at)) e h
goes_read opens bytes p q (Err failure.Memory) from e later other h = tt

pub ok_same : (r : Result Found PartFault) (f k : Found) → r ≡ Ok f → r ≡ Ok k → f ≡ k
ok_same r f k e h = cc

pub ok_apart : (r : Result Found PartFault) (f : Found) (e : PartFault) → r ≡ Err e → r ≡ Ok f → ⊥
ok_apart r f e g h = cc
