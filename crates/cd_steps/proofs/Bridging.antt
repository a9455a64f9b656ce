-- What a draft gives with a substitution is what follows by its inference.
use Rattle.std.proofs.Common.{◌≡◌, ◌↔◌, ℕ, ◌+◌, ◌≤◌, Bool, false, List, [], ◌∷◌, ◌++◌, length, map, drop, Option, Some, None, option_map, ap, ap₂, ◌∙◌, sym, subst, refl, arith, length-append}
use Rattle.std.proofs.Math.ListN.{drop_of_length-le}
use Rattle.std.proofs.lemmas.List.{map-append}
use Rattle.std.proofs.lemmas.List.FromFn.{length-map-range_with_len}
use Rattle.cd_term.specs.declared.Term.{Term}
use Rattle.cd_term.specs.declared.Term.TheVariants.{Var}
use Rattle.cd_term.specs.Terms.{applied, value_of, bound_of, greatest}
use Rattle.cd_term.proofs.Substitutions.{substituted-identity, substituted-same}
use Rattle.cd_clause.specs.declared.Atom.{Atom}
use Rattle.cd_clause.specs.declared.Atom.TheVariants.{Equal}
use Rattle.cd_clause.specs.declared.Literal.{Literal}
use Rattle.cd_clause.specs.declared.Clause.{Clause}
use Rattle.cd_clause.specs.Clauses.{terms_of, atom_changed, literal_changed, literals_changed, variable_bound_of}
use Rattle.cd_clause.specs.Places.{signed, subterm_at, replaced_at, replaced_at_under}
use Rattle.cd_clause.proofs.TidyLemmas.{twice_map, twice_literals}
use Rattle.cd_clause.proofs.PlaceLemmas.{at-is, at-nowhere, replaced_applied}
use Rattle.cd_steps.specs.declared.drafts.Part.{Part}
use Rattle.cd_steps.specs.declared.drafts.Part.TheVariants.{First, Second, Unequal, Replaced}
use Rattle.cd_steps.specs.declared.drafts.Draft.{Draft}
use Rattle.cd_steps.specs.Rules.{Inference, Follows, FollowsBy, both_bounds}
use Rattle.cd_steps.specs.Steps.{themselves}
use Rattle.cd_steps.specs.Laws.{GivesOne}
use Rattle.cd_steps.specs.Drafts.{raised, literal_of, part_literals, inference_of, part_under, concluded_under, GivenBy, AreBelow, IsPartBelow, IsBelow, IsRewritingOf}
use Rattle.cd_steps.proofs.Covering.{raised_behind, in_front, raised_itself, all_alike, atom_alike, literals_alike, twice_atom, cannot_replace}
use Rattle.cd_steps.proofs.Raising.{place_raised, can_replace}

-- ---- one substitution that acts on the terms of each premise as one of its own does

module _ (s r whole : List Term) (up n m : ℕ) (first : (t : Term) → bound_of t ≤ n → applied whole t ≡ applied s t) (second : (t : Term) → bound_of t ≤ m → applied whole (raised up t) ≡ applied r t) where
  terms_behind : (ts : List Term) → greatest (map bound_of ts) ≤ m → map (applied whole) (map (raised up) ts) ≡ map (applied r) ts
  terms_behind ts low = twice_map (applied whole) (raised up) ts ∙ all_alike (λ t. applied whole (raised up t)) (applied r) m second ts low

  atom_behind : (a : Atom) → greatest (map bound_of (terms_of a)) ≤ m → atom_changed (applied whole) (atom_changed (raised up) a) ≡ atom_changed (applied r) a
  atom_behind a low = twice_atom (applied whole) (raised up) a ∙ atom_alike (λ t. applied whole (raised up t)) (applied r) m second a low

  literals_behind : (ls : List Literal) → AreBelow m ls → literals_changed (applied whole) (literals_changed (raised up) ls) ≡ literals_changed (applied r) ls
  literals_behind ls low = twice_literals (applied whole) (raised up) ls ∙ literals_alike (λ t. applied whole (raised up t)) (applied r) m second ls low

  replaced_part : (sign : Bool) (path : List ℕ) (new : Term) (a : Atom) → greatest (map bound_of (terms_of a)) ≤ m → bound_of new ≤ n →
      (o : Option Term) → subterm_at path a ≡ o →
      literal_of sign (replaced_at_under r s path new a) ≡ literals_changed (applied whole) (literal_of sign (replaced_at path new (atom_changed (raised up) a)))
  replaced_part sign path new a low small None out =
      ap (literal_of sign) (at-nowhere r s path new a out)
      ∙ sym (ap (λ (o : Option Atom). literals_changed (applied whole) (literal_of sign o))
      (cannot_replace path new (atom_changed (raised up) a) (place_raised up path a ∙ ap (option_map (raised up)) out)))
  replaced_part sign path new a low small (Some u) there =
      let c = can_replace path new (raised up u) (atom_changed (raised up) a) (place_raised up path a ∙ ap (option_map (raised up)) there) in
      ap (literal_of sign) (at-is r s path new a u there
      ∙ ap₂ (replaced_at path) (sym (first new small)) (sym (atom_behind a low))
      ∙ replaced_applied whole path new (atom_changed (raised up) a) c.0 c.1)
      ∙ sym (ap (λ (o : Option Atom). literals_changed (applied whole) (literal_of sign o)) c.1)

  part_is : (p : Part) → IsPartBelow n m p → part_under s r p ≡ literals_changed (applied whole) (part_literals up p)
  part_is (First ls) low = sym (literals_alike (applied whole) (applied s) n first ls.now low)
  part_is (Second ls) low = sym (literals_behind ls.now low)
  part_is (Unequal t u) low =
      ap₂ (λ (v w : Term). signed false (Equal v w) ∷ []) (sym (first t.now low.0)) (sym (first u.now low.1))
  part_is (Replaced l path new) low =
      replaced_part l.now.positive path.now new.now l.now.atom low.0 low.1 (subterm_at path.now l.now.atom) refl

five_map : (g : Literal → Literal) (a b c d e : List Literal) → map g (a ++ b ++ c ++ d ++ e) ≡ map g a ++ map g b ++ map g c ++ map g d ++ map g e
five_map g a b c d e =
    map-append g (a ++ b ++ c ++ d) e
    ∙ ap (λ (z : List Literal). z ++ map g e) (map-append g (a ++ b ++ c) d
    ∙ ap (λ (z : List Literal). z ++ map g d) (map-append g (a ++ b) c
    ∙ ap (λ (z : List Literal). z ++ map g c) (map-append g a b)))

five_same : (a b c d e v w x y z : List Literal) → a ≡ v → b ≡ w → c ≡ x → d ≡ y → e ≡ z → a ++ b ++ c ++ d ++ e ≡ v ++ w ++ x ++ y ++ z
five_same a b c d e v w x y z p q r s t = cc

module _ (d : Draft) (s r whole : List Term) (n m : ℕ) (first : (t : Term) → bound_of t ≤ n → applied whole t ≡ applied s t) (second : (t : Term) → bound_of t ≤ m → applied whole (raised d.up t) ≡ applied r t) (low : IsBelow n m d) where
  left_is : map (applied whole) (inference_of d).left ≡ map (applied s) d.left.now
  left_is = all_alike (applied whole) (applied s) n first d.left.now low.left

  right_is : map (applied whole) (inference_of d).right ≡ map (applied r) d.right.now
  right_is = terms_behind s r whole d.up n m first second d.right.now low.right

  concluded_is : concluded_under s r d ≡ literals_changed (applied whole) (inference_of d).conclusion
  concluded_is =
      five_same _ _ _ _ _ _ _ _ _ _
      (part_is s r whole d.up n m first second d.one low.one) (part_is s r whole d.up n m first second d.two low.two)
      (part_is s r whole d.up n m first second d.three low.three) (part_is s r whole d.up n m first second d.four low.four)
      (part_is s r whole d.up n m first second d.five low.five)
      ∙ sym (five_map (literal_changed (applied whole)) (part_literals d.up d.one) (part_literals d.up d.two) (part_literals d.up d.three) (part_literals d.up d.four) (part_literals d.up d.five))

-- ---- a draft with values for both premises

module _ (d : Draft) (s : List Term) (c : Clause) (low : IsBelow (d.up + d.more) d.more d) where
  given_to : GivenBy d s c → Follows (inference_of d) s c
  given_to g =
      let second = λ (t : Term) (le : bound_of t ≤ d.more). raised_behind s d.up d.more t g.covers le in
      record {
        covers = g.covers;
        equal = g.equal ∙ sym (right_is d s (drop d.up s) s (d.up + d.more) d.more (λ t le. refl) second low);
        literals = g.literals ∙ concluded_is d s (drop d.up s) s (d.up + d.more) d.more (λ t le. refl) second low;
      }

  given_from : Follows (inference_of d) s c → GivenBy d s c
  given_from f =
      let second = λ (t : Term) (le : bound_of t ≤ d.more). raised_behind s d.up d.more t f.covers le in
      record {
        covers = f.covers;
        equal = f.equal ∙ right_is d s (drop d.up s) s (d.up + d.more) d.more (λ t le. refl) second low;
        literals = f.literals ∙ sym (concluded_is d s (drop d.up s) s (d.up + d.more) d.more (λ t le. refl) second low);
      }

  pub given_follows : GivenBy d s c ↔ Follows (inference_of d) s c
  given_follows = (given_to, given_from)

-- ---- a draft of a rewriting step, with values for the equation alone

applied_none : (r : List Term) (t : Term) → r ≡ [] → applied r t ≡ t
applied_none r t none = ap (λ (u : List Term). applied u t) none ∙ substituted-same (value_of []) Var (λ k. refl) t ∙ substituted-identity t

long_enough : (s : List Term) (c : Clause) → length (s ++ themselves c) ≡ length s + variable_bound_of c
long_enough s c = length-append s (themselves c) ∙ ap (λ k. length s + k) (length-map-range_with_len Var 0 (variable_bound_of c))

module _ (e : Clause) (x : ℕ) (c : Clause) (j : ℕ) (path : List ℕ) (d : Draft) (is : IsRewritingOf e x c j path d) (s : List Term) (result : Clause) where
  front : length s ≡ d.up → (t : Term) → bound_of t ≤ variable_bound_of e → applied (s ++ themselves c) t ≡ applied s t
  front long t le = in_front s (themselves c) d.up t long (omega (arith, is.up, le))

  behind : length s ≡ d.up → (t : Term) → bound_of t ≤ variable_bound_of c → applied (s ++ themselves c) (raised d.up t) ≡ applied (drop d.up s) t
  behind long t le =
      raised_itself s d.up (variable_bound_of c) t long le ∙ sym (applied_none (drop d.up s) t (drop_of_length-le s (omega (arith, long))))

  rewriting_to : GivenBy d s result → Follows (record (inference_of d) { variables = both_bounds e c }) (s ++ themselves c) result
  rewriting_to g =
      let long : length s ≡ d.up = omega (arith, g.covers, is.alone) in
      record {
        covers = omega (arith, long_enough s c, long, is.up);
        equal = left_is d s (drop d.up s) (s ++ themselves c) (variable_bound_of e) (variable_bound_of c) (front long) (behind long) is.below
            ∙ g.equal ∙ sym (right_is d s (drop d.up s) (s ++ themselves c) (variable_bound_of e) (variable_bound_of c) (front long) (behind long) is.below);
        literals = g.literals ∙ concluded_is d s (drop d.up s) (s ++ themselves c) (variable_bound_of e) (variable_bound_of c) (front long) (behind long) is.below;
      }

  rewriting_from : Follows (record (inference_of d) { variables = both_bounds e c }) (s ++ themselves c) result → GivenBy d s result
  rewriting_from f =
      let long : length s ≡ d.up = omega (arith, f.covers, long_enough s c, is.up) in
      record {
        covers = omega (arith, long, is.alone);
        equal = sym (left_is d s (drop d.up s) (s ++ themselves c) (variable_bound_of e) (variable_bound_of c) (front long) (behind long) is.below)
            ∙ f.equal ∙ right_is d s (drop d.up s) (s ++ themselves c) (variable_bound_of e) (variable_bound_of c) (front long) (behind long) is.below;
        literals = f.literals ∙ sym (concluded_is d s (drop d.up s) (s ++ themselves c) (variable_bound_of e) (variable_bound_of c) (front long) (behind long) is.below);
      }

  pub rewriting_follows : GivenBy d s result ↔ Follows (record (inference_of d) { variables = both_bounds e c }) (s ++ themselves c) result
  rewriting_follows = (rewriting_to, rewriting_from)

-- ---- rules

-- a clause follows by a rule exactly where it follows by the one inference that the rule makes
pub by_the_one : (Rule : Inference → Type 0) → GivesOne Rule → (inference : Inference) → Rule inference → (s : List Term) (c : Clause) →
    FollowsBy Rule s c ↔ Follows inference s c
by_the_one Rule one inference is s c = (
  (λ f. subst (λ (i : Inference). Follows i s c) (one f.0 inference f.1 is) f.2),
  (λ f. (inference, is, f)),
)
