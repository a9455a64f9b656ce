-- What a strike and a resolution do to known entries.
use Rattle.std.proofs.Common.{◌≡◌, ℕ, Bool, true, false, ◌&&◌, not, cond, eqb, List, refl, ap, sym, ◌∙◌}
use Rattle.std.specs.Prelude.{Option, Some, None}
use Rattle.cd_names.specs.declared.How.TheVariants as how
use Rattle.cd_ledger.specs.declared.items.Origin.TheVariants as origin
use Rattle.cd_names.specs.declared.names.Name.{Name}
use Rattle.cd_names.specs.declared.How.{How}
use Rattle.cd_ledger.specs.declared.items.Origin.{Origin}
use Rattle.cd_ledger.specs.declared.records.Record.{Record}
use Rattle.cd_ledger.specs.declared.records.Status.{Status}
use Rattle.cd_ledger.specs.declared.records.Status.TheVariants.{Dropped, Held, Rework, Told}
use Rattle.cd_ledger.specs.declared.records.Known.{Known}
use Rattle.cd_ledger.specs.declared.items.Outcome.{Outcome}
use Rattle.cd_ledger.specs.declared.items.Outcome.TheVariants.{Named, Subsumed, Trivial}
use Rattle.cd_list.specs.Lists.{tally}
use Rattle.std.specs.List.{AllByRecursion as Each}
use Rattle.std.specs.Prelude.{is_some}
use Rattle.cd_names.specs.Names.{name_eq}
use Rattle.cd_ledger.specs.Records.{is_of}
use Rattle.cd_ledger.specs.Statuses.{is_held, is_rework, status_holds, status_reworks}
use Rattle.cd_machine.specs.Contraction.{hit_on, loss, lost_home, strike_one, struck, struck_by}
use Rattle.cd_machine.specs.Acts.{resolution, resolve_one, resolved}
use Rattle.cd_laws.specs.Sound.{status_ends, status_told}
use Rattle.cd_laws.proofs.Lists.{Each_map, Each_weaker, tally_map, tally_same}

pub hit_held : (hit : Known → Option How) (e : Known) (h : How) → hit_on hit e ≡ Some h → is_held e ≡ true
hit_held hit e h x = go (is_held e) x
  where
    go : (b : Bool) → cond b (hit e) None ≡ Some h → b ≡ true
    go true y = refl
    go false y = cc

pub home_held : (h : How) (d : Name) → status_holds (lost_home h d) ≡ false
home_held how.Subsumes d = refl
home_held how.Reduces d = refl

home_ends : (h : How) (d : Name) → status_ends (lost_home h d) ≡ false
home_ends how.Subsumes d = refl
home_ends how.Reduces d = refl

home_told : (h : How) (d : Name) → status_told (lost_home h d) ≡ false
home_told how.Subsumes d = refl
home_told how.Reduces d = refl

pub loss_held : (me : ℕ) (d : Name) (h : How) (r : Record) → status_holds (loss me d h r) ≡ false
loss_held me d h r = elim (eqb r.owner me) as (λ b. status_holds (cond b (lost_home h d) (Told d)) ≡ false) [ true ↦ home_held h d | false ↦ refl ]

pub loss_ends : (me : ℕ) (d : Name) (h : How) (r : Record) → status_ends (loss me d h r) ≡ false
loss_ends me d h r = elim (eqb r.owner me) as (λ b. status_ends (cond b (lost_home h d) (Told d)) ≡ false) [ true ↦ home_ends h d | false ↦ refl ]

pub loss_told : (me : ℕ) (d : Name) (h : How) (r : Record) → status_told (loss me d h r) ≡ not (eqb r.owner me)
loss_told me d h r = elim (eqb r.owner me) as (λ b. status_told (cond b (lost_home h d) (Told d)) ≡ not b) [ true ↦ home_told h d | false ↦ refl ]

pub struck_by_entry : (me : ℕ) (d : Name) (e : Known) (o : Option How) → (struck_by me d e o).entry ≡ e.entry
struck_by_entry me d e None = refl
struck_by_entry me d e (Some h) = refl

pub strike_entry : (me : ℕ) (hit : Known → Option How) (d : Name) (e : Known) → (strike_one me hit d e).entry ≡ e.entry
strike_entry me hit d e = struck_by_entry me d e (hit_on hit e)

pub struck_by_held : (me : ℕ) (d : Name) (e : Known) (o : Option How) → is_held (struck_by me d e o) ≡ (is_held e && not (is_some o))
struck_by_held me d e None = elim (is_held e) as (λ b. b ≡ (b && true)) [ true ↦ refl | false ↦ refl ]
struck_by_held me d e (Some h) = loss_held me d h e.entry ∙ elim (is_held e) as (λ b. false ≡ (b && false)) [ true ↦ refl | false ↦ refl ]

pub strike_held : (me : ℕ) (hit : Known → Option How) (d : Name) (e : Known) → is_held (strike_one me hit d e) ≡ (is_held e && not (is_some (hit_on hit e)))
strike_held me hit d e = struck_by_held me d e (hit_on hit e)

pub struck_tally : (n : Name) (me : ℕ) (hit : Known → Option How) (d : Name) (es : List Known) → tally (is_of n) (struck me hit d es) ≡ tally (is_of n) es
struck_tally n me hit d es =
    tally_map (is_of n) (strike_one me hit d) es
    ∙ tally_same (λ e. is_of n (strike_one me hit d e)) (is_of n) (λ e. ap (λ r. name_eq r.name n) (strike_entry me hit d e)) es

-- resolutions
pub resolution_held : (o : Outcome) (using : List Name) → status_holds (resolution o using) ≡ false
resolution_held (Named n) using = refl
resolution_held Trivial using = refl
resolution_held (Subsumed d) using = refl

pub resolution_reworks : (o : Outcome) (using : List Name) → status_reworks (resolution o using) ≡ false
resolution_reworks (Named n) using = refl
resolution_reworks Trivial using = refl
resolution_reworks (Subsumed d) using = refl

pub resolution_ends : (o : Outcome) (using : List Name) → status_ends (resolution o using) ≡ true
resolution_ends (Named n) using = refl
resolution_ends Trivial using = refl
resolution_ends (Subsumed d) using = refl

pub resolution_told : (o : Outcome) (using : List Name) → status_told (resolution o using) ≡ false
resolution_told (Named n) using = refl
resolution_told Trivial using = refl
resolution_told (Subsumed d) using = refl

pub resolve_entry : (n : Name) (st : Status) (e : Known) → (resolve_one n st e).entry ≡ e.entry
resolve_entry n st e = elim (is_of n e && is_rework e) as (λ b. (cond b (record e { status = st }) e).entry ≡ e.entry) [ true ↦ refl | false ↦ refl ]

rework_unheld : (s : Status) → status_reworks s ≡ true → status_holds s ≡ false
rework_unheld Held h = cc
rework_unheld (Rework d) h = refl
rework_unheld (Dropped r) h = refl
rework_unheld (Told d) h = refl

pub resolve_held : (n : Name) (st : Status) (e : Known) → status_holds st ≡ false → is_held (resolve_one n st e) ≡ is_held e
resolve_held n st e h = go (is_of n e) (is_rework e) refl
  where
    go : (a b : Bool) → is_rework e ≡ b → is_held (cond (a && b) (record e { status = st }) e) ≡ is_held e
    go true true x = h ∙ sym (rework_unheld e.status x)
    go true false x = refl
    go false b x = refl

-- a test of entries that a resolution keeps
pub resolved_tally : (t : Known → Bool) (o : Origin) (st : Status) → ((n : Name) (e : Known) → t (resolve_one n st e) ≡ t e) → (es : List Known) → tally t (resolved o st es) ≡ tally t es
resolved_tally t (origin.Input k) st h es = refl
resolved_tally t (origin.Task u k) st h es = refl
resolved_tally t (origin.Rework n) st h es = tally_map t (resolve_one n st) es ∙ tally_same (λ e. t (resolve_one n st e)) t (h n) es

pub resolved_of : (m : Name) (o : Origin) (st : Status) (es : List Known) → tally (is_of m) (resolved o st es) ≡ tally (is_of m) es
resolved_of m o st es = resolved_tally (is_of m) o st (λ n e. ap (λ r. name_eq r.name m) (resolve_entry n st e)) es

pub resolved_each : (P : Known → Type 0) (o : Origin) (st : Status) → ((n : Name) (e : Known) → P e → P (resolve_one n st e)) → (es : List Known) → Each P es → Each P (resolved o st es)
resolved_each P (origin.Input k) st f es h = h
resolved_each P (origin.Task u k) st f es h = h
resolved_each P (origin.Rework n) st f es h = Each_map P (resolve_one n st) es (Each_weaker P (λ e. P (resolve_one n st e)) (f n) es h)

pub resolve_each_case : (P : Known → Type 0) (n : Name) (st : Status) (e : Known) → P e → (is_rework e ≡ true → P (record e { status = st })) → P (resolve_one n st e)
resolve_each_case P n st e h g = go (is_of n e) (is_rework e) refl
  where
    go : (a b : Bool) → is_rework e ≡ b → P (cond (a && b) (record e { status = st }) e)
    go true true x = g x
    go true false x = h
    go false b x = h
