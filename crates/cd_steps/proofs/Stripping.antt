-- Literals compared with the parts of what follows, one after another.
use Rattle.std.proofs.Common.{◌≡◌, ◌↔◌, ℕ, Bool, true, false, not, IsTrue, List, [], ◌∷◌, ◌++◌, Option, Some, None, ap, ◌∙◌, sym, refl, append_assoc}
use mathlib.Core.Bool.{beq}
use Rattle.std.proofs.lemmas.Bool.{false≢true}
use Rattle.std.proofs.lemmas.List.{append_cancel_left, append-nil}
use Rattle.cd_term.specs.declared.Term.{Term}
use Rattle.cd_clause.specs.declared.Atom.{Atom}
use Rattle.cd_clause.specs.declared.Literal.{Literal}
use Rattle.cd_clause.specs.Places.{signed, subterm_at, replaced_at_under}
use Rattle.cd_clause.proofs.PlaceLemmas.{at-somewhere}
use Rattle.cd_steps.specs.Drafts.{literal_of}

-- ---- tests that are passed exactly where something holds

pub refused : {P : Type 0} → (P → ⊥) → IsTrue false ↔ P
refused out = ((λ e. absurd (false≢true e)), (λ p. absurd (out p)))

-- ---- one literal

head_and_tail : (a b : Literal) (xs ys : List Literal) → a ∷ xs ≡ b ∷ ys → (a ≡ b) × (xs ≡ ys)
head_and_tail a b xs ys e = (cc, cc)

-- where a path leads out of an atom there is no literal with a subterm replaced
pub no_literal : (sign : Bool) (o : Option Atom) (rest : List Literal) → o ≡ None → rest ≡ literal_of sign o ++ rest
no_literal sign o rest out = sym (ap (λ (p : Option Atom). literal_of sign p ++ rest) out)

pub signs_differ : (a b : Bool) → not (beq a b) ≡ true → a ≡ b → ⊥
signs_differ true true e f = absurd cc
signs_differ true false e f = absurd cc
signs_differ false true e f = absurd cc
signs_differ false false e f = absurd cc

-- elsewhere there is one, and it comes first
at_first : (sign : Bool) (o : Option Atom) (rest others : List Literal) → (o ≡ None → ⊥) → rest ≡ literal_of sign o ++ others →
    (a : Atom) × (o ≡ Some a) × (rest ≡ signed sign a ∷ others)
at_first sign None rest others there e = absurd (there refl)
at_first sign (Some a) rest others there e = (a, refl, e)

module _ (sign : Bool) (o : Option Atom) (rest : List Literal) (there : o ≡ None → ⊥) where
  pub none_left : rest ≡ [] → (others : List Literal) → rest ≡ literal_of sign o ++ others → ⊥
  none_left empty others e = let f = at_first sign o rest others there e in let x : [] ≡ signed sign f.0 ∷ others = sym empty ∙ f.2 in absurd cc

  pub other_sign : (m : Literal) (ms : List Literal) → rest ≡ m ∷ ms → (m.positive ≡ sign → ⊥) → (others : List Literal) → rest ≡ literal_of sign o ++ others → ⊥
  other_sign m ms is differ others e =
      let f = at_first sign o rest others there e in
      differ (ap (λ (k : Literal). k.positive) (head_and_tail m (signed sign f.0) ms others (sym is ∙ f.2)).0)

  pub other_atom : (m : Literal) (ms : List Literal) → rest ≡ m ∷ ms → (o ≡ Some m.atom → ⊥) → (others : List Literal) → rest ≡ literal_of sign o ++ others → ⊥
  other_atom m ms is differ others e =
      let f = at_first sign o rest others there e in
      differ (f.1 ∙ ap Some (sym (ap (λ (k : Literal). k.atom) (head_and_tail m (signed sign f.0) ms others (sym is ∙ f.2)).0)))

pub replaced_there : (r s : List Term) (path : List ℕ) (new : Term) (a : Atom) (u : Term) → subterm_at path a ≡ Some u → replaced_at_under r s path new a ≡ None → ⊥
replaced_there r s path new a u there out = let none = at-somewhere r s path new a out in absurd cc

-- ---- five parts

nested : (a b c d e : List Literal) → a ++ b ++ c ++ d ++ e ≡ a ++ (b ++ (c ++ (d ++ (e ++ []))))
nested a b c d e =
    append_assoc (a ++ b ++ c) d e ∙ append_assoc (a ++ b) c (d ++ e) ∙ append_assoc a b (c ++ (d ++ e))
    ∙ ap (λ (z : List Literal). a ++ (b ++ (c ++ (d ++ z)))) (sym (append-nil e))

back : (ls front rest behind : List Literal) → ls ≡ front ++ rest → ls ≡ front ++ behind → rest ≡ behind
back ls front rest behind is e = append_cancel_left front rest behind (sym is ∙ e)

module _ (a b c d e ls : List Literal) where
  module _ (r : List Literal) (one : ls ≡ a ++ r) where
    to_one : ls ≡ a ++ b ++ c ++ d ++ e → r ≡ b ++ (c ++ (d ++ (e ++ [])))
    to_one is = back ls a r _ one (is ∙ nested a b c d e)

    pub strip_two : ((others : List Literal) → r ≡ b ++ others → ⊥) → IsTrue false ↔ (ls ≡ a ++ b ++ c ++ d ++ e)
    strip_two none = refused (λ is. none _ (to_one is))

    module _ (t : List Literal) (two : r ≡ b ++ t) where
      to_two : ls ≡ a ++ b ++ c ++ d ++ e → t ≡ c ++ (d ++ (e ++ []))
      to_two is = back r b t _ two (to_one is)

      pub strip_three : ((others : List Literal) → t ≡ c ++ others → ⊥) → IsTrue false ↔ (ls ≡ a ++ b ++ c ++ d ++ e)
      strip_three none = refused (λ is. none _ (to_two is))

      module _ (u : List Literal) (three : t ≡ c ++ u) where
        to_three : ls ≡ a ++ b ++ c ++ d ++ e → u ≡ d ++ (e ++ [])
        to_three is = back t c u _ three (to_two is)

        pub strip_four : ((others : List Literal) → u ≡ d ++ others → ⊥) → IsTrue false ↔ (ls ≡ a ++ b ++ c ++ d ++ e)
        strip_four none = refused (λ is. none _ (to_three is))

        module _ (v : List Literal) (four : u ≡ d ++ v) where
          to_four : ls ≡ a ++ b ++ c ++ d ++ e → v ≡ e ++ []
          to_four is = back u d v _ four (to_three is)

          pub strip_five : ((others : List Literal) → v ≡ e ++ others → ⊥) → IsTrue false ↔ (ls ≡ a ++ b ++ c ++ d ++ e)
          strip_five none = refused (λ is. none _ (to_four is))
