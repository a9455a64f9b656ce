-- A record's tests, and what they decide.
use Rattle.std.proofs.Common.{◌≡◌, ◌↔◌, ℕ, Bool, true, false, not, ◌&&◌, List, [], ◌∷◌, eqb, refl, sym, ◌∙◌, arith}
use Rattle.std.specs.Prelude.{◌%◌, ◌==◌, None}
use Rattle.std.proofs.lemmas.Bool.{false≢true, eqb-true}
use Rattle.std.proofs.lemmas.Bool.Decides.{nat_tests}
use Rattle.cd_steps.specs.declared.Step.TheVariants as step
use Rattle.cd_names.specs.declared.names.Name.{Name}
use Rattle.cd_ledger.specs.declared.records.Record.{Record}
use Rattle.cd_steps.specs.declared.Step.{Step}
use Rattle.cd_ledger.specs.declared.local.Local.{Local}
use Rattle.std.specs.List.{AllByRecursion as Each, list_all}
use Rattle.cd_read.specs.declared.problem.Problem.{Problem}
use Rattle.cd_machine.specs.Rules.{IsFit, IsTautology, IsTidied}
use Rattle.cd_ledger.specs.Records.{GoesOnBehindCopy, InShare, IsShape, begins, cites_of, is_copy, is_known, owner_by}
use Rattle.cd_machine.specs.Right.{Lead, registry_of}
use Rattle.cd_machine.specs.Fits.{IsFine}
use Rattle.cd_laws.proofs.Lists.{and_true, not_true}

-- the tests of a record's steps
abbrev shares : ℕ → ℕ → Step → Bool
shares n q (step.Input k) = k % n == q
shares n q (step.Copy m) = true
shares n q (step.Resolve a i b j t) = true
shares n q (step.Factor a i j t) = true
shares n q (step.Refl a i t) = true
shares n q (step.EqFac a i s j z t) = true
shares n q (step.Para a i s b j path t) = true
shares n q (step.Rewrite a s j path t) = true
shares n q step.Tidy = true

abbrev shape_test : List Step → Bool
shape_test [] = false
shape_test (s ∷ ss) = begins s && list_all (λ t. not (begins t)) ss

abbrev goes_test : List Step → Bool
goes_test [] = true
goes_test (s ∷ []) = not (is_copy s)
goes_test (s ∷ t ∷ ss) = true

abbrev named_test : ℕ → Name → ℕ → ℕ → Bool → Bool
named_test sender n owner right known = not known && ((n.peer == sender) && (owner == right))

abbrev all_tests : Bool → Bool → Bool → Bool → Bool → Bool → Bool → Bool
all_tests named shaped cited led tidy fit trivial = named && (shaped && (cited && (led && (tidy && (fit && not trivial)))))

none_to : (ss : List Step) → list_all (λ t. not (begins t)) ss ≡ true → Each (λ t. begins t ≡ false) ss
none_to [] h = tt
none_to (s ∷ ss) h = let x = and_true (not (begins s)) (list_all (λ t. not (begins t)) ss) h in (not_true (begins s) x.0, none_to ss x.1)

none_from : (ss : List Step) → Each (λ t. begins t ≡ false) ss → list_all (λ t. not (begins t)) ss ≡ true
none_from [] h = refl
none_from (s ∷ ss) h = rw (h.0, none_from ss h.1) refl

share_to : (n q : ℕ) (s : Step) → shares n q s ≡ true → InShare n q s
share_to n q (step.Input k) h = h
share_to n q (step.Copy m) h = tt
share_to n q (step.Resolve a i b j t) h = tt
share_to n q (step.Factor a i j t) h = tt
share_to n q (step.Refl a i t) h = tt
share_to n q (step.EqFac a i s j z t) h = tt
share_to n q (step.Para a i s b j path t) h = tt
share_to n q (step.Rewrite a s j path t) h = tt
share_to n q step.Tidy h = tt

share_from : (n q : ℕ) (s : Step) → InShare n q s → shares n q s ≡ true
share_from n q (step.Input k) h = h
share_from n q (step.Copy m) h = refl
share_from n q (step.Resolve a i b j t) h = refl
share_from n q (step.Factor a i j t) h = refl
share_from n q (step.Refl a i t) h = refl
share_from n q (step.EqFac a i s j z t) h = refl
share_from n q (step.Para a i s b j path t) h = refl
share_from n q (step.Rewrite a s j path t) h = refl
share_from n q step.Tidy h = refl

pub shares_to : (n q : ℕ) (ss : List Step) → list_all (shares n q) ss ≡ true → Each (InShare n q) ss
shares_to n q [] h = tt
shares_to n q (s ∷ ss) h = let x = and_true (shares n q s) (list_all (shares n q) ss) h in (share_to n q s x.0, shares_to n q ss x.1)

pub shares_from : (n q : ℕ) (ss : List Step) → Each (InShare n q) ss → list_all (shares n q) ss ≡ true
shares_from n q [] h = refl
shares_from n q (s ∷ ss) h = rw (share_from n q s h.0, shares_from n q ss h.1) refl

pub shape_to : (ss : List Step) → shape_test ss ≡ true → IsShape ss
shape_to [] h = false≢true h
shape_to (s ∷ ss) h = let x = and_true (begins s) (list_all (λ t. not (begins t)) ss) h in (x.0, none_to ss x.1)

pub shape_from : (ss : List Step) → IsShape ss → shape_test ss ≡ true
shape_from [] h = absurd h
shape_from (s ∷ ss) h = rw (h.0, none_from ss h.1) refl

pub goes_to : (ss : List Step) → goes_test ss ≡ true → GoesOnBehindCopy ss
goes_to [] h = tt
goes_to (s ∷ []) h = not_true (is_copy s) h
goes_to (s ∷ t ∷ ss) h = tt

pub goes_from : (ss : List Step) → GoesOnBehindCopy ss → goes_test ss ≡ true
goes_from [] h = refl
goes_from (s ∷ []) h = rw h refl
goes_from (s ∷ t ∷ ss) h = refl

eqb_same : (a b : ℕ) → a ≡ b → eqb a b ≡ true
eqb_same a b h = grind (arith, nat_tests, h)

pub fine_is : (p : Problem) (s : Local) (sender : ℕ) (r : Record) (named shaped cited led tidy fit trivial : Bool)
    → named ≡ named_test sender r.name r.owner (owner_by s.policy s.peers r.name r.clause) (is_known s.known r.name)
    → shaped ≡ (shape_test r.steps && (goes_test r.steps && list_all (shares s.peers sender) r.steps))
    → ((cited ≡ true) ↔ (r.cites ≡ cites_of r.steps)) → ((led ≡ true) ↔ Lead p (registry_of s) None r.steps r.clause) → ((tidy ≡ true) ↔ IsTidied r.clause r.clause)
    → ((fit ≡ true) ↔ IsFit p r.clause) → ((trivial ≡ true) ↔ IsTautology r.clause)
    → (all_tests named shaped cited led tidy fit trivial ≡ true) ↔ IsFine p s sender r
fine_is p s sender r named shaped cited led tidy fit trivial hn hs hc hl ht hf hv = (to, from)
  where
    to : all_tests named shaped cited led tidy fit trivial ≡ true → IsFine p s sender r
    to h =
        let a = and_true named (shaped && (cited && (led && (tidy && (fit && not trivial))))) h in
        let b = and_true shaped (cited && (led && (tidy && (fit && not trivial)))) a.1 in
        let c = and_true cited (led && (tidy && (fit && not trivial))) b.1 in
        let d = and_true led (tidy && (fit && not trivial)) c.1 in
        let e = and_true tidy (fit && not trivial) d.1 in
        let f = and_true fit (not trivial) e.1 in
        let n = and_true (not (is_known s.known r.name)) (eqb r.name.peer sender && eqb r.owner (owner_by s.policy s.peers r.name r.clause)) (sym hn ∙ a.0) in
        let m = and_true (eqb r.name.peer sender) (eqb r.owner (owner_by s.policy s.peers r.name r.clause)) n.1 in
        let g = and_true (shape_test r.steps) (goes_test r.steps && list_all (shares s.peers sender) r.steps) (sym hs ∙ b.0) in
        let k = and_true (goes_test r.steps) (list_all (shares s.peers sender) r.steps) g.1 in
        record {
          unknown = not_true (is_known s.known r.name) n.0;
          issuer = eqb-true r.name.peer sender m.0;
          owner = eqb-true r.owner (owner_by s.policy s.peers r.name r.clause) m.1;
          shape = shape_to r.steps g.0;
          behind_copy = goes_to r.steps k.0;
          cites = hc.0 c.0;
          share = shares_to s.peers sender r.steps k.1;
          leads = hl.0 d.0;
          tidy = ht.0 e.0;
          fit = hf.0 f.0;
          no_tautology = λ v. false≢true (sym (not_true trivial f.1) ∙ hv.1 v);
        }

    untrue : (b : Bool) → (b ≡ true → ⊥) → not b ≡ true
    untrue true h = absurd (h refl)
    untrue false h = refl

    from : IsFine p s sender r → all_tests named shaped cited led tidy fit trivial ≡ true
    from f =
        let n : named ≡ true = hn ∙ rw (f.unknown, eqb_same r.name.peer sender f.issuer, eqb_same r.owner (owner_by s.policy s.peers r.name r.clause) f.owner) refl in
        let h : shaped ≡ true = hs ∙ rw (shape_from r.steps f.shape, goes_from r.steps f.behind_copy, shares_from s.peers sender r.steps f.share) refl in
        rw (n, h, hc.1 f.cites, hl.1 f.leads, ht.1 f.tidy, hf.1 f.fit, untrue trivial (λ v. f.no_tautology (hv.0 v))) refl
