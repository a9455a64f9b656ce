-- What is chosen stands on what is chosen before it.
use Rattle.std.proofs.Common.{◌≡◌, Bool, true, false, ◌||◌, cond, List, [], ◌∷◌, ◌++◌, refl, ap, sym, ◌∙◌, subst}
use Rattle.std.specs.Prelude.{Option, Some, None}
use Rattle.cd_clause.specs.declared.Clause.{Clause}
use Rattle.cd_names.specs.declared.names.Name.{Name}
use Rattle.cd_steps.specs.declared.Step.{Step}
use Rattle.cd_ledger.specs.declared.records.Record.{Record}
use Rattle.cd_ledger.specs.declared.records.Known.{Known}
use Rattle.std.specs.List.{AllByRecursion as Each}
use Rattle.cd_read.specs.declared.problem.Problem.{Problem}
use Rattle.cd_ledger.specs.Records.{Registry, cites_of, is_of, recorded}
use Rattle.cd_machine.specs.Rules.{is_empty}
use Rattle.cd_names.specs.Names.{name_eq}
use Rattle.cd_steps.specs.Premises.{names_in}
use Rattle.cd_machine.specs.Right.{Lead}
use Rattle.cd_laws.specs.Premises.{Premises}
use Rattle.cd_laws.specs.Rooted.{AreLed}
use Rattle.cd_laws.proofs.Lists.{Each_weaker}
use Rattle.cd_laws.proofs.Steps.{name_eq_refl, name_eq_true}
use Rattle.cd_laws.proofs.Whole.{cites_all}
use Rattle.cd_alone.specs.Alone.{EndsEmpty, IsNotEmpty}
use Rattle.cd_alone.specs.Derived.{ancestors, choose, is_wanted, last_names, up_to_empty}
use Rattle.cd_kbo.specs.declared.order.Order.{Order}

wanted_left : (xs ys : List Name) (n : Name) → is_wanted xs n ≡ true → is_wanted (xs ++ ys) n ≡ true
wanted_left [] ys n h = absurd (let z : false ≡ true = h in cc)
wanted_left (x ∷ xs) ys n h = elim (name_eq x n) as (λ b. (b || is_wanted xs n) ≡ true → (b || is_wanted (xs ++ ys) n) ≡ true) [ true ↦ λ g. refl | false ↦ λ g. wanted_left xs ys n g ] h

wanted_right : (xs ys : List Name) (n : Name) → is_wanted ys n ≡ true → is_wanted (xs ++ ys) n ≡ true
wanted_right [] ys n h = h
wanted_right (x ∷ xs) ys n h = elim (name_eq x n) as (λ b. (b || is_wanted (xs ++ ys) n) ≡ true) [ true ↦ refl | false ↦ wanted_right xs ys n h ]

all_wanted : (ns : List Name) → Each (λ n. is_wanted ns n ≡ true) ns
all_wanted [] = tt
all_wanted (n ∷ ns) = (rw (name_eq_refl n) refl, Each_weaker (λ m. is_wanted ns m ≡ true) (λ m. is_wanted (n ∷ ns) m ≡ true) (λ m h. wanted_right (n ∷ []) ns m h) ns (all_wanted ns))

-- the same entry behind two lists in which a name has the same record
recorded_same : (n : Name) (xs ys zs : List Known) → recorded n xs ≡ recorded n ys → recorded n (xs ++ zs) ≡ recorded n (ys ++ zs)
recorded_same n xs ys zs h = split xs ∙ (ap or_else h ∙ sym (split ys))
  where
    or_else : Option Record → Option Record
    or_else None = recorded n zs
    or_else (Some r) = Some r

    split : (es : List Known) → recorded n (es ++ zs) ≡ or_else (recorded n es)
    split [] = refl
    split (e ∷ es) = elim (is_of n e) as (λ b. cond b (Some e.entry) (recorded n (es ++ zs)) ≡ or_else (cond b (Some e.entry) (recorded n es))) [ true ↦ refl | false ↦ split es ]

recorded_other : (n : Name) (xs : List Known) (e : Known) → is_of n e ≡ false → recorded n (xs ++ e ∷ []) ≡ recorded n xs
recorded_other n [] e h = rw h refl
recorded_other n (x ∷ xs) e h = elim (is_of n x) as (λ b. cond b (Some x.entry) (recorded n (xs ++ e ∷ [])) ≡ cond b (Some x.entry) (recorded n xs)) [ true ↦ refl | false ↦ recorded_other n xs e h ]

to_last : (xs : List Known) (e : Known) → Each IsNotEmpty xs → is_empty e.entry.clause ≡ true → up_to_empty (xs ++ e ∷ []) ≡ xs ++ e ∷ []
to_last [] e h g = rw g refl
to_last (x ∷ xs) e h g = rw h.0 (ap (λ (zs : List Known). x ∷ zs) (to_last xs e h.1 g))

pub whole : (es : List Known) → EndsEmpty es → up_to_empty es ≡ es
whole es end = ap up_to_empty end.split ∙ (to_last end.front end.last end.others end.empty ∙ sym end.split)

-- a name that is wanted has the same record in both
abbrev Agree : List Name → List Known → List Known → Type 0
Agree names xs ys = (n : Name) → is_wanted names n ≡ true → recorded n xs ≡ recorded n ys

module _ (order : Order) (q : Premises order) (p : Problem) where
  -- steps lead where their names have the same records
  lead_agrees : (R S : Registry) (current : Option Clause) (ss : List Step) (c : Clause) → Each (λ s. Each (λ n. R n ≡ S n) (names_in s)) ss → Lead p R current ss c → Lead p S current ss c
  lead_agrees R S current [] c same x = x
  lead_agrees R S current (s ∷ ss) c same x =
      (x.0, q.replay_grows p R S current s x.0 (Each_weaker (λ n. R n ≡ S n) (λ n. (r : Record) → R n ≡ Some r → S n ≡ Some r) (λ n e r h. sym e ∙ h) (names_in s) same.0) x.1, lead_agrees R S (Some x.0) ss c same.1 x.2)

  chosen_led : (goal : List Name) (front some es : List Known) → AreLed p front es → Agree (choose goal es).wanted front some → AreLed p some (choose goal es).entries
  chosen_led goal front some [] h same = tt
  chosen_led goal front some (e ∷ es) h same = go (is_wanted (choose goal es).wanted e.entry.name) refl same (λ ks agree. chosen_led goal (front ++ e ∷ []) ks es h.1 agree)
    where
      not_it : (n : Name) → is_wanted (choose goal es).wanted e.entry.name ≡ false → is_wanted (choose goal es).wanted n ≡ true → is_of n e ≡ false
      not_it n is w = by (is_of n e) refl
        where
          by : (b : Bool) → is_of n e ≡ b → is_of n e ≡ false
          by false x = x
          by true x = absurd (let same' : e.entry.name ≡ n = name_eq_true e.entry.name n x in
              let z : is_wanted (choose goal es).wanted n ≡ false = subst (λ (m : Name). is_wanted (choose goal es).wanted m ≡ false) same' is in
              let y : true ≡ false = sym w ∙ z in cc)

      go : (b : Bool) → is_wanted (choose goal es).wanted e.entry.name ≡ b
          → Agree (cond b (record { entries = e ∷ (choose goal es).entries; wanted = (choose goal es).wanted ++ e.entry.cites }) (choose goal es)).wanted front some
          → ((ks : List Known) → Agree (choose goal es).wanted (front ++ e ∷ []) ks → AreLed p ks (choose goal es).entries)
          → AreLed p some (cond b (record { entries = e ∷ (choose goal es).entries; wanted = (choose goal es).wanted ++ e.entry.cites }) (choose goal es)).entries
      go true is agree rest =
          let cited : Each (λ n. recorded n front ≡ recorded n some) (cites_of e.entry.steps) =
          subst (λ (ns : List Name). Each (λ n. recorded n front ≡ recorded n some) ns) h.0.2
          (Each_weaker (λ n. is_wanted e.entry.cites n ≡ true) (λ n. recorded n front ≡ recorded n some) (λ n w. agree n (wanted_right (choose goal es).wanted e.entry.cites n w)) e.entry.cites (all_wanted e.entry.cites)) in (
            (lead_agrees (λ n. recorded n front) (λ n. recorded n some) None e.entry.steps e.entry.clause (cites_all (λ n. recorded n front ≡ recorded n some) e.entry.steps cited) h.0.0, h.0.1, h.0.2),
            rest (some ++ e ∷ []) (λ n w. recorded_same n front some (e ∷ []) (agree n (wanted_left (choose goal es).wanted e.entry.cites n w))),
          )
      go false is agree rest = rest some (λ n w. recorded_other n front e (not_it n is w) ∙ agree n w)

  pub ancestors_led : (es : List Known) → EndsEmpty es → AreLed p [] es → AreLed p [] (ancestors es)
  ancestors_led es end h = chosen_led (last_names (up_to_empty es)) [] [] (up_to_empty es) (subst (AreLed p []) (sym (whole es end)) h) (λ n w. refl)

-- ---- the last one is the empty clause
chosen_end : (goal : List Name) (front : List Known) (e : Known) → is_wanted goal e.entry.name ≡ true → (xs : List Known) × ((choose goal (front ++ e ∷ [])).entries ≡ xs ++ e ∷ [])
chosen_end goal [] e h = ([], rw h refl)
chosen_end goal (x ∷ front) e h =
    let r = chosen_end goal front e h in
    elim (is_wanted (choose goal (front ++ e ∷ [])).wanted x.entry.name)
    as (λ b. (xs : List Known) × ((cond b (record { entries = x ∷ (choose goal (front ++ e ∷ [])).entries; wanted = (choose goal (front ++ e ∷ [])).wanted ++ x.entry.cites }) (choose goal (front ++ e ∷ []))).entries ≡ xs ++ e ∷ []))
    [ true ↦ (x ∷ r.0, ap (λ (zs : List Known). x ∷ zs) r.1) | false ↦ r ]

last_name : (front : List Known) (e : Known) → last_names (front ++ e ∷ []) ≡ e.entry.name ∷ []
last_name [] e = refl
last_name (x ∷ []) e = refl
last_name (x ∷ y ∷ front) e = last_name (y ∷ front) e

pub ancestors_end : (es : List Known) → (h : EndsEmpty es) → (xs : List Known) × (ancestors es ≡ xs ++ h.last ∷ [])
ancestors_end es h =
    let r = chosen_end (h.last.entry.name ∷ []) h.front h.last (rw (name_eq_refl h.last.entry.name) refl) in
    (r.0, ap (λ (zs : List Known). (choose (last_names zs) zs).entries) (whole es h ∙ h.split) ∙ (ap (λ (ns : List Name). (choose ns (h.front ++ h.last ∷ [])).entries) (last_name h.front h.last) ∙ r.1))
