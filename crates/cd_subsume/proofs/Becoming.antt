-- Literals that a literal can't become.
use Rattle.std.proofs.Common.{◌≡◌, ℕ, ◌+◌, ◌<◌, ◌≤◌, ◌⊎◌, inl, inr, Bool, true, false, List, length, get_or, subst, sym, refl, arith, Some, slice_get}
use Rattle.cd_term.specs.declared.Term.{Term}
use Rattle.cd_clause.specs.declared.Literal.{Literal}
use Rattle.cd_subsume.specs.declared.picks.Pick.{Pick}
use Rattle.cd_subsume.specs.Literals.{LiteralBinds}
use Rattle.cd_subsume.specs.Subsumption.{IsPicked, ArePicked}
use Rattle.cd_subsume.proofs.Items.{get_within, get_some, read_at, same_item}
use Rattle.cd_subsume.proofs.Searching.{picked_binds}

-- a literal can become none of the first ones
abbrev pub BecomesNone : Literal → List Literal → ℕ → Type 0
BecomesNone l ms i = (place : ℕ) (m : Literal) → place < i → slice_get ms place ≡ Some m → (g : ℕ → Term) →
    (LiteralBinds false l m g → ⊥) × (LiteralBinds true l m g → ⊥)

pub none_more : (l : Literal) (ms : List Literal) (i : ℕ) (m : Literal) → i < length ms → m ≡ get_or ms i m → BecomesNone l ms i →
    ((g : ℕ → Term) → LiteralBinds false l m g → ⊥) → ((g : ℕ → Term) → LiteralBinds true l m g → ⊥) → BecomesNone l ms (i + 1)
none_more l ms i m lt at before straight turned place k le here g = at_or_before (split place i le)
  where
    split : (j n : ℕ) → j < n + 1 → (j < n) ⊎ (j ≡ n)
    split j n h = grind (arith, h)

    at_or_before : (place < i) ⊎ (place ≡ i) → (LiteralBinds false l k g → ⊥) × (LiteralBinds true l k g → ⊥)
    at_or_before (inl less) = before place k less here g
    at_or_before (inr same) =
        let is : m ≡ k = same_item ms i place m k (sym same) (read_at ms i i m refl lt at) here in (
          (λ h. straight g (subst (λ (x : Literal). LiteralBinds false l x g) (sym is) h)),
          (λ h. turned g (subst (λ (x : Literal). LiteralBinds true l x g) (sym is) h)),
        )

pub none_picked : (l : Literal) (ms : List Literal) (i : ℕ) → length ms ≤ i → BecomesNone l ms i → (g : ℕ → Term) (p : Pick) → IsPicked g l ms p → ⊥
none_picked l ms i past none g p picked = by p.is_exchanged refl
  where
    here : (LiteralBinds false l picked.literal g → ⊥) × (LiteralBinds true l picked.literal g → ⊥)
    here = none p.place picked.literal (omega (arith, past, get_within ms p.place picked.literal picked.place)) picked.place g

    binds : LiteralBinds p.is_exchanged l picked.literal g
    binds = picked_binds g l picked.literal ms p picked.place picked

    by : (b : Bool) → p.is_exchanged ≡ b → ⊥
    by false e = here.0 (subst (λ (c : Bool). LiteralBinds c l picked.literal g) e binds)
    by true e = here.1 (subst (λ (c : Bool). LiteralBinds c l picked.literal g) e binds)

-- a literal without a partner
pub no_picks : (ls ms : List Literal) (i : ℕ) (l : Literal) → i < length ls → l ≡ get_or ls i l → ((g : ℕ → Term) (p : Pick) → IsPicked g l ms p → ⊥) →
    (g : ℕ → Term) (picks : List Pick) → ArePicked g ls ms picks → ⊥
no_picks ls ms i l lt at none g picks are =
    let p = get_some picks i (omega (arith, are.as_many, lt)) in none g p.0 (are.each i l p.0 (read_at ls i i l refl lt at) p.1)
