-- How a `Sequence` holds its items, for the types that hold themselves through one, as a term does through
-- its list of arguments. A value splits into a shape and its items as a list does, since the view of a
-- `Sequence` is the list of the items that its vector holds; the invariant speaks of their number alone,
-- which no change of the items changes.
-- Beyond the headline: no clause of `prove` reaches this file.
use native.Mathlib.Bridge.{le_prop}
use mathlib.Core.Path.{◌≡◌, refl, sym, subst}
use mathlib.Core.List.{List, []}
use mathlib.Core.Former.{Former, this, list, via, children}
use base.Stored.{code_map}
use denote.RattleType.{RattleType}
use denote.HoleLaws.{Alike}
use denote.HolePlaces.{Recodes, struct_places, laid}
use denote.Hole.Carrier.{listed, list-listed}
use denote.Hole.Fix.{over}
use denote.Param.Weighed.{Weighed, w_list}
use denote.Model.Placed.{view_places}
use Rattle.std.specs.Prelude.{ℕ, ◌<◌, ◌^◌}
use Rattle.std.proofs.lemmas.List.{length-map}
use Rattle.std.specs.formers.vec.Vec as vector
use Rattle.std.specs.declared.alloc.Global.{Global}
use Rattle.std.specs.contracts.alloc.Global as global
use Rattle.std.specs.contracts.impls.GlobalAllocator.TheImpl.{ghosts}
use Rattle.cd_list.specs.declared.sequence.Sequence.TheInside.{Inside}
use Rattle.cd_list.specs.declared.sequence.Sequence.TheView.{view, invariant}
use Rattle.cd_list.specs.contracts.sequence.Sequence as sequence
use Rattle.cd_list.specs.contracts.sequence.Sequence.TheInside as inside

abbrev pub the_former : Former {0} → Former {0}
the_former item = list item

abbrev pub the_weighed : {item : Former {0}} → Weighed item → Weighed (the_former item)
the_weighed weight = w_list weight

pub the_empty : List ⊥
the_empty = []

abbrev pub the_items : (X : Type 0) → List X → List X
the_items X items = items

pub the_items_listed : (X : Type 0) (items : List X) → listed _ (children (the_former this) X items) ≡ the_items X items
the_items_listed X items = list-listed X items

abbrev fields : Former {0}
fields = via (vector.the_former this Global) Inside (λ X a. a.items) (λ X v. record { items = v }) (λ X a. refl) (λ X v. refl)

module _ (R S : RattleType) (h : R.Denot → S.Denot) where
  pub the_places : Alike R S h → Alike (sequence.the_row R) (sequence.the_row S) ((the_former this).map R.Denot S.Denot h)
  the_places alike = view_places fields (list this) view (λ X Y k u. refl) (λ X u. refl) R.Denot S.Denot h
      (sequence.the_row R).coded (sequence.the_row S).coded
      (invariant R.Denot) (invariant S.Denot) (λ u p q. le_prop p q) (λ u p q. le_prop p q)
      (λ u few. subst (λ (n : ℕ). n < 2 ^ 62) (sym (length-map u.items.items h)) few)
      (λ u few. subst (λ (n : ℕ). n < 2 ^ 62) (length-map u.items.items h) few)
      (over (inside.the_row R)) (over (inside.the_row S))
      (struct_places (inside.the_type R) (inside.the_type S) (vector.mapped h, tt) _ (λ d. refl) refl
      (laid _ _ _ (vector.the_places global.the_row ghosts R S h alike), tt))

  pub the_codes_placed : Recodes R S h → Recodes (sequence.the_row R) (sequence.the_row S) ((the_former this).map R.Denot S.Denot h)
  the_codes_placed recoded d = sym (code_map R.coded.code S.coded.code h (λ x. sym (recoded x)) d)
