-- Two readings of what a record hits agree on every entry of the list, and so in all that is made of them.
use Rattle.std.proofs.Common.{◌≡◌, ℕ, Bool, true, false, ◌&&◌, ◌||◌, not, cond, List, [], ◌∷◌, ◌++◌, refl, ap, ◌∙◌}
use Rattle.std.specs.Prelude.{Option, Some, None}
use Rattle.cd_names.specs.declared.How.TheVariants as how
use Rattle.cd_names.specs.declared.names.Name.{Name}
use Rattle.cd_names.specs.declared.How.{How}
use Rattle.cd_tasks.specs.declared.Task.{Task}
use Rattle.cd_tasks.specs.declared.Task.TheVariants.{Pair, Solo}
use Rattle.cd_ledger.specs.declared.items.Item.{Item}
use Rattle.cd_ledger.specs.declared.records.Record.{Record}
use Rattle.cd_ledger.specs.declared.records.Known.{Known}
use Rattle.cd_ledger.specs.declared.local.Local.{Local}
use Rattle.std.specs.List.{AllByRecursion as Each}
use Rattle.std.specs.List.{cons_option}
use Rattle.std.specs.Prelude.{is_some}
use Rattle.cd_ledger.specs.Statuses.{is_held}
use Rattle.cd_ledger.specs.Records.{is_of}
use Rattle.cd_machine.specs.Contraction.{hit_on, is_struck, lost, notice_of, notices, rework_of, reworks, struck, struck_by, uncovered}
use Rattle.cd_tasks.specs.Owing.{touches}
use Rattle.cd_machine.specs.Arrivals.{arrived, joined}
use Rattle.cd_machine.specs.Hits.{AreHits, IsBackHit}
use Rattle.cd_kbo.specs.declared.order.Order.{Order}

-- the two tests say the same of each entry
abbrev pub Agree : (Known → Option How) → (Known → Option How) → List Known → Type 0
Agree hit hot es = Each (λ e. hit_on hit e ≡ hit_on hot e) es

back_once : (order : Order) → (r : Record) (e : Known) (o u : Option How) → is_held e ≡ true → IsBackHit order r e o → IsBackHit order r e u → o ≡ u
back_once order r e None None h x y = refl
back_once order r e None (Some how.Subsumes) h x y = absurd ((x h y.0).0 y.1)
back_once order r e None (Some how.Reduces) h x y = absurd ((x h y.0).1 y.2)
back_once order r e (Some how.Subsumes) None h x y = absurd ((y h x.0).0 x.1)
back_once order r e (Some how.Reduces) None h x y = absurd ((y h x.0).1 x.2)
back_once order r e (Some how.Subsumes) (Some how.Subsumes) h x y = refl
back_once order r e (Some how.Subsumes) (Some how.Reduces) h x y = absurd (y.1 x.1)
back_once order r e (Some how.Reduces) (Some how.Subsumes) h x y = absurd (x.1 y.1)
back_once order r e (Some how.Reduces) (Some how.Reduces) h x y = refl

entry_once : (order : Order) → (r : Record) (e : Known) (hit hot : Known → Option How) → IsBackHit order r e (hit_on hit e) → IsBackHit order r e (hit_on hot e) → hit_on hit e ≡ hit_on hot e
entry_once order r e hit hot x y = go (is_held e) refl x y
  where
    go : (b : Bool) → is_held e ≡ b → IsBackHit order r e (cond b (hit e) None) → IsBackHit order r e (cond b (hot e) None) → cond b (hit e) None ≡ cond b (hot e) None
    go true h x y = back_once order r e (hit e) (hot e) h x y
    go false h x y = refl

pub hits_agree : (order : Order) → (r : Record) (es : List Known) (hit hot : Known → Option How) → AreHits order r es hit → AreHits order r es hot → Agree hit hot es
hits_agree order r [] hit hot x y = tt
hits_agree order r (e ∷ es) hit hot x y = (entry_once order r e hit hot x.0 y.0, hits_agree order r es hit hot x.1 y.1)

module _ (hit hot : Known → Option How) where
  pub struck_agree : (me : ℕ) (d : Name) (es : List Known) → Agree hit hot es → struck me hit d es ≡ struck me hot d es
  struck_agree me d [] a = refl
  struck_agree me d (e ∷ es) a = ap (λ o. struck_by me d e o ∷ struck me hit d es) a.0 ∙ ap (λ xs. struck_by me d e (hit_on hot e) ∷ xs) (struck_agree me d es a.1)

  pub reworks_agree : (me : ℕ) (d : Name) (es : List Known) → Agree hit hot es → reworks me hit d es ≡ reworks me hot d es
  reworks_agree me d [] a = refl
  reworks_agree me d (e ∷ es) a = ap (λ o. cons_option (rework_of me d e.entry o) (reworks me hit d es)) a.0 ∙ ap (λ xs. cons_option (rework_of me d e.entry (hit_on hot e)) xs) (reworks_agree me d es a.1)

  pub notices_agree : (me time : ℕ) (d : Name) (es : List Known) → Agree hit hot es → notices me time hit d es ≡ notices me time hot d es
  notices_agree me time d [] a = refl
  notices_agree me time d (e ∷ es) a = ap (λ o. cons_option (notice_of me time d e.entry o) (notices me time hit d es)) a.0 ∙ ap (λ xs. cons_option (notice_of me time d e.entry (hit_on hot e)) xs) (notices_agree me time d es a.1)

  is_struck_agree : (es : List Known) → Agree hit hot es → (n : Name) → is_struck hit es n ≡ is_struck hot es n
  is_struck_agree [] a n = refl
  is_struck_agree (e ∷ es) a n = ap (λ o. (is_of n e && is_some o) || is_struck hit es n) a.0 ∙ ap (λ b. (is_of n e && is_some (hit_on hot e)) || b) (is_struck_agree es a.1 n)

  touches_agree : (es : List Known) → Agree hit hot es → (t : Task) → touches (is_struck hit es) t ≡ touches (is_struck hot es) t
  touches_agree es a (Solo n) = is_struck_agree es a n
  touches_agree es a (Pair n m) = ap (λ b. b || is_struck hit es m) (is_struck_agree es a n) ∙ ap (λ b. is_struck hot es n || b) (is_struck_agree es a m)

  pub uncovered_agree : (es : List Known) → Agree hit hot es → (ts : List Task) → uncovered hit es ts ≡ uncovered hot es ts
  uncovered_agree es a [] = refl
  uncovered_agree es a (t ∷ ts) =
      ap (λ b. cond (not b) (t ∷ uncovered hit es ts) (uncovered hit es ts)) (touches_agree es a t)
      ∙ ap (λ xs. cond (not (touches (is_struck hot es) t)) (t ∷ xs) xs) (uncovered_agree es a ts)

  abbrev lost_as : Local → List Known → List Task → List Item → Local
  lost_as s es ts is = record s { known = es; owed = ts; pending = s.pending ++ is }

  pub lost_agree : (s : Local) (d : Name) → Agree hit hot s.known → lost s hit d ≡ lost s hot d
  lost_agree s d a =
      ap (λ es. lost_as s es (uncovered hit s.known s.owed) (reworks s.me hit d s.known)) (struck_agree s.me d s.known a)
      ∙ (ap (λ ts. lost_as s (struck s.me hot d s.known) ts (reworks s.me hit d s.known)) (uncovered_agree s.known a s.owed)
      ∙ ap (λ is. lost_as s (struck s.me hot d s.known) (uncovered hot s.known s.owed) is) (reworks_agree s.me d s.known a))

  pub arrived_agree : (s : Local) (r : Record) → Agree hit hot s.known → arrived s hit r ≡ arrived s hot r
  arrived_agree s r a = ap (λ x. joined x r) (lost_agree s r.name a)
