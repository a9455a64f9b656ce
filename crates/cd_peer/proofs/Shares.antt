-- The items of a share, one input after another.
use Rattle.std.proofs.Common.{◌≡◌, ℕ, suc, ◌+◌, ◌<◌, ◌≤◌, ◌%◌, ◌==◌, true, false, List, [], ◌∷◌, ◌++◌, length, map, take, get_or, refl, ap, sym, ◌∙◌, subst, arith, inl, inr}
use Rattle.std.proofs.lemmas.List.{length-map, length-take, map-append, take_all, take_more}
use Rattle.cd_clause.specs.declared.Clause.{Clause}
use Rattle.cd_ledger.specs.declared.items.Item.{Item}
use Rattle.cd_ledger.specs.declared.items.Origin.TheVariants as origin
use Rattle.cd_machine.specs.Acts.{IsItemOf}
use Rattle.cd_machine.specs.World.{AreShare}
use Rattle.cd_read.specs.declared.problem.Input.{Input}
use Rattle.cd_steps.specs.declared.Step.TheVariants as step
use Rattle.cd_peer.specs.Peers.{AddsShared, AreShared, clause_of}

share_in : (q n k : ℕ) (cs : List Clause) (items : List Item) (c : Clause) (item : Item) → AreShare q n k cs items → ((k + length cs) % n == q) ≡ true → IsItemOf (origin.Input (k + length cs)) (step.Input (k + length cs)) c item
    → AreShare q n k (cs ++ c ∷ []) (items ++ item ∷ [])
share_in q n k [] items c item are mine is =
    let e : k + 0 ≡ k = omega arith in
    inl (subst (λ (m : ℕ). (m % n == q) ≡ true) e mine, (item, [], subst (λ (m : ℕ). IsItemOf (origin.Input m) (step.Input m) c item) e is, refl, ap (λ (l : List Item). l ++ item ∷ []) are))
share_in q n k (d ∷ cs) items c item (inl x) mine is =
    let e : k + suc (length cs) ≡ k + 1 + length cs = omega arith in
    inl (x.0, (x.1.0, x.1.1 ++ item ∷ [], x.1.2, share_in q n (k + 1) cs x.1.1 c item x.1.3 (subst (λ (m : ℕ). (m % n == q) ≡ true) e mine) (subst (λ (m : ℕ). IsItemOf (origin.Input m) (step.Input m) c item) e is), ap (λ (l : List Item). l ++ item ∷ []) x.1.4))
share_in q n k (d ∷ cs) items c item (inr x) mine is =
    let e : k + suc (length cs) ≡ k + 1 + length cs = omega arith in
    inr (x.0, share_in q n (k + 1) cs items c item x.1 (subst (λ (m : ℕ). (m % n == q) ≡ true) e mine) (subst (λ (m : ℕ). IsItemOf (origin.Input m) (step.Input m) c item) e is))

share_out : (q n k : ℕ) (cs : List Clause) (items : List Item) (c : Clause) → AreShare q n k cs items → ((k + length cs) % n == q) ≡ false → AreShare q n k (cs ++ c ∷ []) items
share_out q n k [] items c are other =
    let e : k + 0 ≡ k = omega arith in
    inr (subst (λ (m : ℕ). (m % n == q) ≡ false) e other, are)
share_out q n k (d ∷ cs) items c (inl x) other =
    let e : k + suc (length cs) ≡ k + 1 + length cs = omega arith in
    inl (x.0, (x.1.0, x.1.1, x.1.2, share_out q n (k + 1) cs x.1.1 c x.1.3 (subst (λ (m : ℕ). (m % n == q) ≡ false) e other), x.1.4))
share_out q n k (d ∷ cs) items c (inr x) other =
    let e : k + suc (length cs) ≡ k + 1 + length cs = omega arith in
    inr (x.0, share_out q n (k + 1) cs items c x.1 (subst (λ (m : ℕ). (m % n == q) ≡ false) e other))

module _ (q n : ℕ) (inputs : List Input) (i index : ℕ) (input : Input) (small : i < length inputs) (at : input ≡ get_or inputs i input) (same : index ≡ i) where
  front : map clause_of (take (i + 1) inputs) ≡ map clause_of (take i inputs) ++ input.clause ∷ []
  front = ap (λ (xs : List Input). map clause_of xs) (take_more inputs i input small ∙ ap (λ (x : Input). take i inputs ++ x ∷ []) (sym at)) ∙ map-append clause_of (take i inputs) (input ∷ [])

  place : index ≡ 0 + length (map clause_of (take i inputs))
  place =
      let l : length (map clause_of (take i inputs)) ≡ length (take i inputs) = length-map (take i inputs) clause_of in
      let s : length (take i inputs) ≡ i = omega (arith, small, length-take i inputs) in
      omega (arith, same, l, s)

  share_more : (items more : List Item) (item : Item) → AreShared q n (take i inputs) items → (index % n == q) ≡ true → IsItemOf (origin.Input index) (step.Input index) input.clause item → more ≡ items ++ item ∷ []
      → AreShared q n (take (i + 1) inputs) more
  share_more items more item are mine is grown =
      subst (λ (ms : List Item). AreShared q n (take (i + 1) inputs) ms) (sym grown)
      (subst (λ (cs : List Clause). AreShare q n 0 cs (items ++ item ∷ [])) (sym front)
      (share_in q n 0 (map clause_of (take i inputs)) items input.clause item are (subst (λ (m : ℕ). (m % n == q) ≡ true) place mine) (subst (λ (m : ℕ). IsItemOf (origin.Input m) (step.Input m) input.clause item) place is)))

  share_same : (items : List Item) → AreShared q n (take i inputs) items → (index % n == q) ≡ false → AreShared q n (take (i + 1) inputs) items
  share_same items are other =
      subst (λ (cs : List Clause). AreShare q n 0 cs items) (sym front) (share_out q n 0 (map clause_of (take i inputs)) items input.clause are (subst (λ (m : ℕ). (m % n == q) ≡ false) place other))

  pub share_step : (items more : List Item) → AreShared q n (take i inputs) items → AddsShared q n index input.clause items more → AreShared q n (take (i + 1) inputs) more
  share_step items more are (inl x) = share_more items more x.1 are x.0 x.2 x.3
  share_step items more are (inr x) = subst (λ (ms : List Item). AreShared q n (take (i + 1) inputs) ms) (sym x.1) (share_same items are x.0)

pub share_all : (q n : ℕ) (inputs : List Input) (i : ℕ) (items : List Item) → length inputs ≤ i → AreShared q n (take i inputs) items → AreShared q n inputs items
share_all q n inputs i items all are = subst (λ (xs : List Input). AreShared q n xs items) (take_all i inputs all) are
