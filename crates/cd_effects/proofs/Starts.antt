-- The start is one.
use Rattle.std.proofs.Common.{◌≡◌, ℕ, ◌+◌, ◌%◌, ◌<◌, Bool, true, false, eqb, List, [], ◌∷◌, length, ap, sym, ◌∙◌, subst, inl, inr, ext_get_or}
use Rattle.cd_ledger.specs.declared.items.Origin.TheVariants as origin
use Rattle.cd_steps.specs.declared.Step.TheVariants as step
use Rattle.cd_clause.specs.declared.Clause.{Clause}
use Rattle.cd_ledger.specs.declared.items.Item.{Item}
use Rattle.cd_ledger.specs.declared.letters.Letter.{Letter}
use Rattle.cd_ledger.specs.declared.local.Local.{Local}
use Rattle.cd_machine.specs.World.{AreShare, World, at, nobody, starting}
use Rattle.cd_effects.specs.Effects.{Single, StartsOnce}
use Rattle.cd_effects.proofs.Effects.{item_once}
use Rattle.cd_kbo.specs.declared.order.Order.{Order}
use Rattle.cd_machine.specs.Rules.{clauses_of}

clash : (b : Bool) → b ≡ true → b ≡ false → ⊥
clash b h g = let z : true ≡ false = sym h ∙ g in cc

share_once : (order : Order) → (s : Single order) (q n k : ℕ) (cs : List Clause) (is js : List Item) → AreShare q n k cs is → AreShare q n k cs js → is ≡ js
share_once order s q n k [] is js a b = a ∙ sym b
share_once order s q n k (c ∷ cs) is js (inl a) (inl b) =
    a.1.4 ∙ (ap (λ i. i ∷ a.1.1) (item_once order s (origin.Input k) (step.Input k) c a.1.0 b.1.0 a.1.2 b.1.2)
    ∙ (ap (λ xs. b.1.0 ∷ xs) (share_once order s q n (k + 1) cs a.1.1 b.1.1 a.1.3 b.1.3) ∙ sym b.1.4))
share_once order s q n k (c ∷ cs) is js (inl a) (inr b) = absurd (clash (eqb (k % n) q) a.0 b.0)
share_once order s q n k (c ∷ cs) is js (inr a) (inl b) = absurd (clash (eqb (k % n) q) b.0 a.0)
share_once order s q n k (c ∷ cs) is js (inr a) (inr b) = share_once order s q n (k + 1) cs is js a.1 b.1

abbrev world_as : List Local → List Letter → World
world_as ss ls = record { locals = ss; travelling = ls }

pub starts_once : (order : Order) → StartsOnce order
starts_once order s p policy limits w v h g same = ap (λ ss. world_as ss w.travelling) locals ∙ ap (λ ls. world_as v.locals ls) (h.travelling ∙ sym g.travelling)
  where
    one : (q : ℕ) → q < length w.locals → at w q ≡ at v q
    one q l =
        let a = h.fresh q l in
        let b = g.fresh q (subst (λ (n : ℕ). q < n) same l) in
        let items = share_once order s q (length w.locals) 0 (clauses_of p) a.0 b.0 a.1 (subst (λ (n : ℕ). AreShare q n 0 (clauses_of p) b.0) (sym same) b.1) in
        a.2 ∙ (ap (λ is. starting q (length w.locals) policy limits is) items ∙ (ap (λ n. starting q n policy limits b.0) same ∙ sym b.2))

    locals : w.locals ≡ v.locals
    locals = ext_get_or nobody w.locals v.locals same one
