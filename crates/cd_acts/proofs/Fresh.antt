-- The next name of a peer is new.
use Rattle.std.proofs.Common.{◌≡◌, ℕ, ◌<◌, Bool, true, false, ◌||◌, List, [], ◌∷◌, refl, ap, sym, ◌∙◌, subst, arith}
use Rattle.std.specs.List.{AllByRecursion as Each}
use Rattle.cd_ledger.specs.declared.items.Item.{Item}
use Rattle.cd_ledger.specs.declared.items.Origin.{Origin}
use Rattle.cd_ledger.specs.declared.items.Origin.TheVariants as origin
use Rattle.cd_ledger.specs.declared.local.Local.{Local}
use Rattle.cd_ledger.specs.declared.records.Known.{Known}
use Rattle.cd_ledger.specs.declared.records.Record.{Record}
use Rattle.cd_ledger.specs.declared.records.Status.{Status}
use Rattle.cd_ledger.specs.Records.{is_known, is_of}
use Rattle.cd_machine.specs.Acts.{resolve_one, resolved}
use Rattle.cd_machine.specs.Arrivals.{next_name}
use Rattle.cd_names.specs.declared.names.Name.{Name}
use Rattle.cd_names.specs.Names.{name_eq}
use Rattle.cd_acts.specs.Indexed.{IsBelowNext}
use Rattle.std.specs.Prelude.{Option}
use Rattle.cd_clause.specs.declared.Clause.{Clause}
use Rattle.cd_machine.specs.Contraction.{struck}
use Rattle.cd_names.specs.declared.How.{How}
use Rattle.cd_steps.specs.declared.Step.{Step}
use Rattle.cd_acts.specs.Acts.{named_record}
use Rattle.cd_acts.proofs.Arrivals.{resolve_entry}
use Rattle.cd_acts.proofs.Strikes.{struck_known}
use Rattle.cd_acts.proofs.Lists.{any_none, not_true}
use Rattle.cd_acts.proofs.Names.{name_eq_true}

pub fresh_name : (s : Local) (es : List Known) → Each (IsBelowNext s) es → is_known es (next_name s) ≡ false
fresh_name s es own = any_none (is_of (next_name s)) es (by es own)
  where
    other : (e : Known) → IsBelowNext s e → is_of (next_name s) e ≡ true → ⊥
    other e below same =
        let x : e.entry.name ≡ next_name s = name_eq_true e.entry.name (next_name s) same in
        let small : e.entry.name.seq < s.next_seq = below (ap (λ (n : Name). n.peer) x) in
        let seq : e.entry.name.seq ≡ s.next_seq = ap (λ (n : Name). n.seq) x in
        absurd (omega (arith, small, seq))

    by : (xs : List Known) → Each (IsBelowNext s) xs → Each (λ e. is_of (next_name s) e ≡ false) xs
    by [] h = tt
    by (x ∷ xs) h = (not_true (is_of (next_name s) x) (other x h.0), by xs h.1)

pub resolved_known : (n : Name) (o : Origin) (st : Status) (es : List Known) → is_known (resolved o st es) n ≡ is_known es n
resolved_known n (origin.Input k) st es = refl
resolved_known n (origin.Task t k) st es = refl
resolved_known n (origin.Rework m) st [] = refl
resolved_known n (origin.Rework m) st (e ∷ es) =
    ap (λ (r : Record). name_eq r.name n || is_known (resolved (origin.Rework m) st es) n) (resolve_entry m st e) ∙ ap (λ b. is_of n e || b) (resolved_known n (origin.Rework m) st es)

pub first_holds : (P : Item → Type 0) (xs : List Item) (x : Item) (ys : List Item) → xs ≡ x ∷ ys → Each P xs → P x
first_holds P xs x ys is all = (subst (λ (zs : List Item). Each P zs) is all).0

-- u is the state behind the settling, v that behind the hits
pub kept_unknown : (s u v : Local) (o : Origin) (st : Status) (hit : Known → Option How) (d : Name) (steps : List Step) (c : Clause) (r : Record) → Each (IsBelowNext s) s.known
    → u.known ≡ resolved o st s.known → u.me ≡ s.me → u.next_seq ≡ s.next_seq → r ≡ named_record u steps c → v.known ≡ struck u.me hit d u.known → is_known v.known r.name ≡ false
kept_unknown s u v o st hit d steps c r own hu hm hn hr hv =
    let named : r.name ≡ next_name s = ap (λ (x : Record). x.name) hr ∙ ap (λ p. name_at p u.next_seq) hm ∙ ap (λ q. name_at s.me q) hn in
    ap (λ es. is_known es r.name) hv ∙ struck_known r.name u.me hit d u.known
    ∙ ap (λ es. is_known es r.name) hu ∙ resolved_known r.name o st s.known
    ∙ ap (λ n. is_known s.known n) named ∙ fresh_name s s.known own
  where
    name_at : ℕ → ℕ → Name
    name_at p q = record { peer = p; seq = q }
