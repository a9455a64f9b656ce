-- A record's tests, and what they decide.
use Rattle.std.proofs.Common.{◌≡◌, ◌↔◌, ℕ, ◌+◌, ◌-◌, ◌^◌, ◌<◌, ◌≤◌, min, Bool, true, false, not, ◌&&◌, List, [], ◌∷◌, length, drop, get_or, eqb, refl, sym, ◌∙◌, subst, arith}
use Rattle.std.specs.Prelude.{Option, Some, None}
use Rattle.std.specs.List.{AllByRecursion as Each, list_all}
use Rattle.std.proofs.lemmas.Bool.{false≢true, eqb-true}
use Rattle.std.proofs.lemmas.Bool.Decides.{nat_tests}
use Rattle.cd_clause.specs.declared.Clause.{Clause}
use Rattle.cd_ledger.specs.Records.{GoesOnBehindCopy, InShare, IsShape, Registry, begins, cites_of, is_copy, is_known, owner_by}
use Rattle.cd_ledger.specs.declared.local.Local.{Local}
use Rattle.cd_ledger.specs.declared.records.Record.{Record}
use Rattle.cd_machine.specs.Fits.{IsFine}
use Rattle.cd_machine.specs.Right.{Lead, registry_of}
use Rattle.cd_machine.specs.Rules.{IsFit, IsTautology, IsTidied}
use Rattle.cd_read.specs.declared.problem.Problem.{Problem}
use Rattle.cd_steps.specs.declared.Step.{Step}
use Rattle.cd_steps.specs.declared.Step.TheVariants as step
use Rattle.cd_fineness.specs.Fine.{IsReplay, all_tests, goes_test, named_test, shape_test, shares}
use Rattle.cd_acts.proofs.Lists.{and_true, drop_at, drop_end}

-- a size within bounds is its own, where it stops at the greatest number
pub small_size : (n : ℕ) → n ≤ 65535 → min n (2 ^ 64 - 1) ≡ n
small_size n h = grind (arith, h)

not_true : (b : Bool) → not b ≡ true → b ≡ false
not_true true h = absurd cc
not_true false h = refl

-- what the rest of the steps has to lead to
pub record LeadsOn (p : Problem) (R : Registry) (steps : List Step) (c : Clause) (current : Option Clause) (i : ℕ) : Type 0 where
  pub to : Lead p R current (drop i steps) c → Lead p R None steps c
  pub from : Lead p R None steps c → Lead p R current (drop i steps) c

module _ (p : Problem) (R : Registry) (steps : List Step) (c : Clause) (current : Option Clause) (i : ℕ) (s : Step) (small : i < length steps) (at : s ≡ get_or steps i s) (on : LeadsOn p R steps c current i) where
  first : drop i steps ≡ s ∷ drop (i + 1) steps
  first = drop_at steps i s small at

  pub leads_more : (d : Clause) → IsReplay p R current s (Some d) → LeadsOn p R steps c (Some d) (i + 1)
  leads_more d r = record {
    to = λ h. on.to (rw first (d, r.0, h));
    from = λ h. (let x = subst (λ (ss : List Step). Lead p R current ss c) first (on.from h) in
        subst (λ (y : Clause). Lead p R (Some y) (drop (i + 1) steps) c) (r.1 x.0 x.1) x.2);
  }

  pub leads_none : IsReplay p R current s None → Lead p R None steps c → ⊥
  leads_none r h = let x = subst (λ (ss : List Step). Lead p R current ss c) first (on.from h) in r x.0 x.1

pub leads_end : (p : Problem) (R : Registry) (steps : List Step) (c : Clause) (current : Option Clause) (i : ℕ) → length steps ≤ i → LeadsOn p R steps c current i → (current ≡ Some c) ↔ Lead p R None steps c
leads_end p R steps c current i all on =
    ((λ e. on.to (rw (drop_end steps i all) e)), (λ h. subst (λ (ss : List Step). Lead p R current ss c) (drop_end steps i all) (on.from h)))

none_to : (ss : List Step) → list_all (λ t. not (begins t)) ss ≡ true → Each (λ t. begins t ≡ false) ss
none_to [] h = tt
none_to (s ∷ ss) h = let x = and_true (not (begins s)) (list_all (λ t. not (begins t)) ss) h in (not_true (begins s) x.0, none_to ss x.1)

none_from : (ss : List Step) → Each (λ t. begins t ≡ false) ss → list_all (λ t. not (begins t)) ss ≡ true
none_from [] h = refl
none_from (s ∷ ss) h = rw (h.0, none_from ss h.1) refl

share_to : (n q : ℕ) (s : Step) → shares n q s ≡ true → InShare n q s
share_to n q (step.Input k) h = h
share_to n q (step.Copy m) h = tt
share_to n q (step.Resolve a i b j t) h = tt
share_to n q (step.Factor a i j t) h = tt
share_to n q (step.Refl a i t) h = tt
share_to n q (step.EqFac a i s j z t) h = tt
share_to n q (step.Para a i s b j path t) h = tt
share_to n q (step.Rewrite a s j path t) h = tt
share_to n q step.Tidy h = tt

share_from : (n q : ℕ) (s : Step) → InShare n q s → shares n q s ≡ true
share_from n q (step.Input k) h = h
share_from n q (step.Copy m) h = refl
share_from n q (step.Resolve a i b j t) h = refl
share_from n q (step.Factor a i j t) h = refl
share_from n q (step.Refl a i t) h = refl
share_from n q (step.EqFac a i s j z t) h = refl
share_from n q (step.Para a i s b j path t) h = refl
share_from n q (step.Rewrite a s j path t) h = refl
share_from n q step.Tidy h = refl

pub shares_to : (n q : ℕ) (ss : List Step) → list_all (shares n q) ss ≡ true → Each (InShare n q) ss
shares_to n q [] h = tt
shares_to n q (s ∷ ss) h = let x = and_true (shares n q s) (list_all (shares n q) ss) h in (share_to n q s x.0, shares_to n q ss x.1)

pub shares_from : (n q : ℕ) (ss : List Step) → Each (InShare n q) ss → list_all (shares n q) ss ≡ true
shares_from n q [] h = refl
shares_from n q (s ∷ ss) h = rw (share_from n q s h.0, shares_from n q ss h.1) refl

pub shape_to : (ss : List Step) → shape_test ss ≡ true → IsShape ss
shape_to [] h = false≢true h
shape_to (s ∷ ss) h = let x = and_true (begins s) (list_all (λ t. not (begins t)) ss) h in (x.0, none_to ss x.1)

pub shape_from : (ss : List Step) → IsShape ss → shape_test ss ≡ true
shape_from [] h = absurd h
shape_from (s ∷ ss) h = rw (h.0, none_from ss h.1) refl

pub goes_to : (ss : List Step) → goes_test ss ≡ true → GoesOnBehindCopy ss
goes_to [] h = tt
goes_to (s ∷ []) h = not_true (is_copy s) h
goes_to (s ∷ t ∷ ss) h = tt

pub goes_from : (ss : List Step) → GoesOnBehindCopy ss → goes_test ss ≡ true
goes_from [] h = refl
goes_from (s ∷ []) h = rw h refl
goes_from (s ∷ t ∷ ss) h = refl

eqb_same : (a b : ℕ) → a ≡ b → eqb a b ≡ true
eqb_same a b h = grind (arith, nat_tests, h)

pub fine_is : (p : Problem) (s : Local) (sender : ℕ) (r : Record) (named shaped cited led tidy fit trivial : Bool)
    → named ≡ named_test sender r.name r.owner (owner_by s.policy s.peers r.name r.clause) (is_known s.known r.name)
    → shaped ≡ (shape_test r.steps && (goes_test r.steps && list_all (shares s.peers sender) r.steps))
    → ((cited ≡ true) ↔ (r.cites ≡ cites_of r.steps)) → ((led ≡ true) ↔ Lead p (registry_of s) None r.steps r.clause) → ((tidy ≡ true) ↔ IsTidied r.clause r.clause)
    → ((fit ≡ true) ↔ IsFit p r.clause) → ((trivial ≡ true) ↔ IsTautology r.clause)
    → (all_tests named shaped cited led tidy fit trivial ≡ true) ↔ IsFine p s sender r
fine_is p s sender r named shaped cited led tidy fit trivial hn hs hc hl ht hf hv = (to, from)
  where
    to : all_tests named shaped cited led tidy fit trivial ≡ true → IsFine p s sender r
    to h =
        let a = and_true named (shaped && (cited && (led && (tidy && (fit && not trivial))))) h in
        let b = and_true shaped (cited && (led && (tidy && (fit && not trivial)))) a.1 in
        let c = and_true cited (led && (tidy && (fit && not trivial))) b.1 in
        let d = and_true led (tidy && (fit && not trivial)) c.1 in
        let e = and_true tidy (fit && not trivial) d.1 in
        let f = and_true fit (not trivial) e.1 in
        let n = and_true (not (is_known s.known r.name)) (eqb r.name.peer sender && eqb r.owner (owner_by s.policy s.peers r.name r.clause)) (sym hn ∙ a.0) in
        let m = and_true (eqb r.name.peer sender) (eqb r.owner (owner_by s.policy s.peers r.name r.clause)) n.1 in
        let g = and_true (shape_test r.steps) (goes_test r.steps && list_all (shares s.peers sender) r.steps) (sym hs ∙ b.0) in
        let k = and_true (goes_test r.steps) (list_all (shares s.peers sender) r.steps) g.1 in
        record {
          unknown = not_true (is_known s.known r.name) n.0;
          issuer = eqb-true r.name.peer sender m.0;
          owner = eqb-true r.owner (owner_by s.policy s.peers r.name r.clause) m.1;
          shape = shape_to r.steps g.0;
          behind_copy = goes_to r.steps k.0;
          cites = hc.0 c.0;
          share = shares_to s.peers sender r.steps k.1;
          leads = hl.0 d.0;
          tidy = ht.0 e.0;
          fit = hf.0 f.0;
          no_tautology = λ v. false≢true (sym (not_true trivial f.1) ∙ hv.1 v);
        }

    untrue : (b : Bool) → (b ≡ true → ⊥) → not b ≡ true
    untrue true h = absurd (h refl)
    untrue false h = refl

    from : IsFine p s sender r → all_tests named shaped cited led tidy fit trivial ≡ true
    from f =
        let n : named ≡ true = hn ∙ rw (f.unknown, eqb_same r.name.peer sender f.issuer, eqb_same r.owner (owner_by s.policy s.peers r.name r.clause) f.owner) refl in
        let h : shaped ≡ true = hs ∙ rw (shape_from r.steps f.shape, goes_from r.steps f.behind_copy, shares_from s.peers sender r.steps f.share) refl in
        rw (n, h, hc.1 f.cites, hl.1 f.leads, ht.1 f.tidy, hf.1 f.fit, untrue trivial (λ v. f.no_tautology (hv.0 v))) refl
