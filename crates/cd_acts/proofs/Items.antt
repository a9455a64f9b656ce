-- Items of a task, one after another.
use Rattle.std.proofs.Common.{◌≡◌, ℕ, ◌+◌, suc, List, [], ◌∷◌, ◌++◌, length, refl, ap, sym, ◌∙◌, subst, arith, append_assoc}
use Rattle.cd_infer.specs.declared.Conclusion.{Conclusion}
use Rattle.cd_ledger.specs.declared.items.Item.{Item}
use Rattle.cd_ledger.specs.declared.items.Origin.TheVariants as origin
use Rattle.cd_machine.specs.Acts.{AreTaskItems, IsItemOf}
use Rattle.cd_tasks.specs.declared.Task.{Task}
use Rattle.cd_acts.specs.Acts.{AddsItems}

items_push : (task : Task) (k : ℕ) (cs : List Conclusion) (items : List Item) (c : Conclusion) (item : Item) → AreTaskItems task k cs items → IsItemOf (origin.Task task (k + length cs)) c.step c.clause item
    → AreTaskItems task k (cs ++ c ∷ []) (items ++ item ∷ [])
items_push task k [] items c item are is =
    let e : k + 0 ≡ k = omega arith in
    (item, [], subst (λ (n : ℕ). IsItemOf (origin.Task task n) c.step c.clause item) e is, refl, ap (λ (l : List Item). l ++ item ∷ []) are)
items_push task k (d ∷ cs) items c item are is =
    let e : k + suc (length cs) ≡ k + 1 + length cs = omega arith in
    (are.0, are.1 ++ item ∷ [], are.2, items_push task (k + 1) cs are.1 c item are.3 (subst (λ (n : ℕ). IsItemOf (origin.Task task n) c.step c.clause item) e is), ap (λ (l : List Item). l ++ item ∷ []) are.4)

pub items_more : (task : Task) (start pending more : List Item) (index : ℕ) (cs : List Conclusion) (c : Conclusion) (item : Item) → AddsItems task cs start pending → index ≡ length cs
    → IsItemOf (origin.Task task index) c.step c.clause item → more ≡ pending ++ item ∷ [] → AddsItems task (cs ++ c ∷ []) start more
items_more task start pending more index cs c item adds counted is grown =
    let place : index ≡ 0 + length cs = omega (arith, counted) in
    record {
      items = adds.items ++ item ∷ [];
      are = items_push task 0 cs adds.items c item adds.are (subst (λ (n : ℕ). IsItemOf (origin.Task task n) c.step c.clause item) place is);
      added = grown ∙ ap (λ (l : List Item). l ++ item ∷ []) adds.added ∙ append_assoc start adds.items (item ∷ []);
    }
