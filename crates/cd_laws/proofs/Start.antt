-- The start is sound.
use Rattle.std.proofs.Common.{◌≡◌, ℕ, suc, ◌+◌, ◌%◌, ◌<◌, Bool, true, false, ◌&&◌, not, cond, eqb, ltb, List, [], ◌∷◌, length, get_or, arith, refl, ap, sym, ◌∙◌, subst, inl, inr}
use Rattle.std.specs.Prelude.{slice_get, Option, Some, None}
use Rattle.std.proofs.lemmas.List.{get_or_past}
use Rattle.std.proofs.lemmas.Bool.{eqb-true, cases_lt}
use Rattle.std.proofs.lemmas.Bool.Decides.{nat_tests}
use Rattle.cd_steps.specs.declared.Step.TheVariants as step
use Rattle.cd_ledger.specs.declared.items.Origin.TheVariants as origin
use Rattle.cd_clause.specs.declared.Clause.{Clause}
use Rattle.cd_names.specs.declared.names.Name.{Name}
use Rattle.cd_ledger.specs.declared.items.Origin.{Origin}
use Rattle.cd_ledger.specs.declared.items.Item.{Item}
use Rattle.cd_names.specs.declared.waves.Token.{Token}
use Rattle.cd_names.specs.declared.ownership.Policy.{Policy}
use Rattle.cd_ledger.specs.declared.local.Limits.{Limits}
use Rattle.cd_ledger.specs.declared.local.Local.{Local}
use Rattle.cd_list.specs.Lists.{tally}
use Rattle.std.specs.List.{AllByRecursion as Each}
use Rattle.std.specs.Prelude.{is_some}
use Rattle.cd_read.specs.declared.problem.Problem.{Problem}
use Rattle.cd_ledger.specs.Records.{InShare, Registry}
use Rattle.cd_machine.specs.Rules.{IsFit, clauses_of}
use Rattle.cd_machine.specs.Acts.{IsItemOf}
use Rattle.cd_machine.specs.World.{AreShare, IsStart, World, first_token, nobody, starting}
use Rattle.cd_laws.specs.Premises.{Premises}
use Rattle.cd_machine.specs.Spread.{issued, record_of}
use Rattle.cd_laws.specs.Sound.{BehindCopy, FromOrigin, IsCounted, IsSound, IsTrue, ItemFalls, TrueItem, TrueToken, origin_eq, tokens_at, tokens_of}
use Rattle.cd_laws.proofs.Lists.{Each_at}
use Rattle.cd_laws.proofs.Truth.{tidy_fits, tidy_leads, tidy_tidied}
use Rattle.cd_laws.proofs.Acts.{tidy_begins, tidy_behind, tidy_shape}
use Rattle.cd_laws.proofs.Shares.{tidy_shared}
use Rattle.cd_kbo.specs.declared.order.Order.{Order}

pub share_none : (t : Origin → Bool) → ((k : ℕ) → t (origin.Input k) ≡ false) → (q n k : ℕ) (cs : List Clause) (items : List Item) → AreShare q n k cs items → tally (λ i. t i.origin) items ≡ 0
share_none t f q n k [] items are = rw are refl
share_none t f q n k (c ∷ cs) items (inl x) =
    let no' : t x.1.0.origin ≡ false = ap t x.1.2.0 ∙ f k in
    let ih = share_none t f q n (k + 1) cs x.1.1 x.1.3 in
    rw x.1.4 (rw no' (omega (arith, ih)))
share_none t f q n k (c ∷ cs) items (inr x) = share_none t f q n (k + 1) cs items x.1

share_count : (j q n k : ℕ) (cs : List Clause) (items : List Item) → AreShare q n k cs items
    → tally (λ i. origin_eq (origin.Input j) i.origin) items ≡ cond ((not (ltb j k) && ltb j (k + length cs)) && eqb (j % n) q) 1 0
share_count j q n k [] items are = rw are (let e : (not (ltb j k) && ltb j (k + length {A = Clause} [])) ≡ false = grind (arith, nat_tests) in rw e refl)
share_count j q n k (c ∷ cs) items (inl x) =
    let e : origin_eq (origin.Input j) x.1.0.origin ≡ eqb j k = ap (origin_eq (origin.Input j)) x.1.2.0 in
    let ih = share_count j q n (k + 1) cs x.1.1 x.1.3 in
    rw x.1.4 (rw (e, ih) (go (eqb j k) refl))
  where
    len : length (c ∷ cs) ≡ 1 + length cs
    len = omega arith

    go : (b : Bool) → eqb j k ≡ b → cond b 1 0 + cond ((not (ltb j (k + 1)) && ltb j (k + 1 + length cs)) && eqb (j % n) q) 1 0 ≡ cond ((not (ltb j k) && ltb j (k + length (c ∷ cs))) && eqb (j % n) q) 1 0
    go true y =
        let same : j ≡ k = eqb-true j k y in
        let mine : eqb (j % n) q ≡ true = ap (λ z. eqb (z % n) q) same ∙ x.0 in
        let a : (not (ltb j (k + 1)) && ltb j (k + 1 + length cs)) ≡ false = grind (arith, nat_tests, same) in
        let b : (not (ltb j k) && ltb j (k + length (c ∷ cs))) ≡ true = grind (arith, nat_tests, same, len) in
        rw (a, b, mine) refl
    go false y =
        let a : (not (ltb j (k + 1)) && ltb j (k + 1 + length cs)) ≡ (not (ltb j k) && ltb j (k + length (c ∷ cs))) = grind (arith, nat_tests, y, len) in
        rw a (omega arith)
share_count j q n k (c ∷ cs) items (inr x) =
    share_count j q n (k + 1) cs items x.1 ∙ go (eqb j k) refl
  where
    len : length (c ∷ cs) ≡ 1 + length cs
    len = omega arith

    go : (b : Bool) → eqb j k ≡ b → ◌≡◌ {A = ℕ} (cond ((not (ltb j (k + 1)) && ltb j (k + 1 + length cs)) && eqb (j % n) q) 1 0) (cond ((not (ltb j k) && ltb j (k + length (c ∷ cs))) && eqb (j % n) q) 1 0)
    go true y =
        let same : j ≡ k = eqb-true j k y in
        let mine : eqb (j % n) q ≡ false = ap (λ z. eqb (z % n) q) same ∙ x.0 in
        rw mine (both (not (ltb j (k + 1)) && ltb j (k + 1 + length cs)) (not (ltb j k) && ltb j (k + length (c ∷ cs))))
      where
        both : (a b : Bool) → ◌≡◌ {A = ℕ} (cond (a && false) 1 0) (cond (b && false) 1 0)
        both true true = refl
        both true false = refl
        both false true = refl
        both false false = refl
    go false y =
        let a : (not (ltb j (k + 1)) && ltb j (k + 1 + length cs)) ≡ (not (ltb j k) && ltb j (k + length (c ∷ cs))) = grind (arith, nat_tests, y, len) in
        rw a refl

share_shared : (me n k : ℕ) (cs : List Clause) (items : List Item) → AreShare me n k cs items → Each (λ i. Each (InShare n me) i.steps) items
share_shared me n k [] items are = rw are tt
share_shared me n k (c ∷ cs) items (inl x) = rw x.1.4 (tidy_shared n me (step.Input k) c x.1.0.steps x.1.0.clause x.1.2.2 x.0, share_shared me n (k + 1) cs x.1.1 x.1.3)
share_shared me n k (c ∷ cs) items (inr x) = share_shared me n (k + 1) cs items x.1

module _ (order : Order) (q : Premises order) (p : Problem) (policy : Policy) (limits : Limits) (fit : Each (IsFit p) (clauses_of p)) where
  share_true : (R : Registry) (me n k : ℕ) (cs : List Clause) → ((j : ℕ) (c : Clause) → slice_get cs j ≡ Some c → slice_get (clauses_of p) (k + j) ≡ Some c) → (items : List Item) → AreShare me n k cs items → Each (TrueItem order p R me) items
  share_true R me n k [] get items are = rw are tt
  share_true R me n k (c ∷ cs) get items (inl x) =
      rw x.1.4 (one x.1.0 x.1.2, share_true R me n (k + 1) cs (λ j d g. (let e : k + suc j ≡ k + 1 + j = omega arith in subst (λ (z : ℕ). slice_get (clauses_of p) z ≡ Some d) e (get (suc j) d g))) x.1.1 x.1.3)
    where
      here : slice_get (clauses_of p) k ≡ Some c
      here = let e : k + 0 ≡ k = omega arith in subst (λ (z : ℕ). slice_get (clauses_of p) z ≡ Some c) e (get 0 c refl)

      one : (i : Item) → IsItemOf (origin.Input k) (step.Input k) c i → TrueItem order p R me i
      one i is = record {
        from_origin = subst (λ (o : Origin). (FromOrigin order) R me o i.steps) (sym is.0) (tidy_begins (step.Input k) c i.steps i.clause is.2);
        falls = subst (λ (o : Origin). (ItemFalls order) R o i.forced i.clause) (sym is.0) tt;
        leads = tidy_leads order q p policy n R None (step.Input k) c i.steps i.clause (Each_at (IsFit p) (clauses_of p) k c here fit) (q.replay_input p R k c here (Each_at (IsFit p) (clauses_of p) k c here fit)) is.2;
        shape = tidy_shape (step.Input k) c i.steps i.clause is.2 refl;
        behind_copy = subst (λ (f : Option Name). BehindCopy f i.steps) (sym is.1) (tidy_behind (step.Input k) c i.steps i.clause is.2 refl);
        tidy = (tidy_tidied order q p policy n R (step.Input k) c i.steps i.clause is.2).1;
        fit = tidy_fits order q p policy n R (step.Input k) c i.steps i.clause (Each_at (IsFit p) (clauses_of p) k c here fit) is.2;
      }
  share_true R me n k (c ∷ cs) get items (inr x) = share_true R me n (k + 1) cs (λ j d g. (let e : k + suc j ≡ k + 1 + j = omega arith in subst (λ (z : ℕ). slice_get (clauses_of p) z ≡ Some d) e (get (suc j) d g))) items x.1

  start_token : (n me : ℕ) → TrueToken n (first_token me)
  start_token n me = elim (eqb me 0) as (λ b. TrueToken n (cond b (Some (record { one = []; two = [] })) None)) [ true ↦ (omega arith, omega arith) | false ↦ tt ]

  start_local : (R : Registry) (me n : ℕ) (items : List Item) → AreShare me n 0 (clauses_of p) items → IsTrue order p policy n R (starting me n policy limits items)
  start_local R me n items share = record {
    known = tt;
    waiting = tt;
    mine = tt;
    pending = share_true R me n 0 (clauses_of p) (λ j c g. (let e : j ≡ 0 + j = omega arith in subst (λ (z : ℕ). slice_get (clauses_of p) z ≡ Some c) e g)) items share;
    settled = tt;
    done = tt;
    owed = tt;
    token = start_token n me;
  }

  start_counted : (me n : ℕ) (items : List Item) → AreShare me n 0 (clauses_of p) items → IsCounted (length (clauses_of p)) n (starting me n policy limits items)
  start_counted me n items share = record {
    once = λ m. omega arith;
    reworks = λ m. share_none (origin_eq (origin.Rework m)) (λ k. refl) me n 0 (clauses_of p) items share;
    ended = λ m. refl;
    inputs = λ k. (let c = share_count k me n 0 (clauses_of p) items share in
        let a : (not (ltb k 0) && ltb k (0 + length (clauses_of p))) ≡ ltb k (length (clauses_of p)) = grind (arith, nat_tests) in
        let d : tally (λ i. origin_eq (origin.Input k) i.origin) items ≡ cond (ltb k (length (clauses_of p)) && eqb (k % n) me) 1 0 = c ∙ rw a refl in omega (arith, d));
    conclusions = λ t k. (let c = share_none (origin_eq (origin.Task t k)) (λ j. refl) me n 0 (clauses_of p) items share in omega (arith, c));
  }

  starts_tokens : (n k : ℕ) (ls : List Local) → ((j : ℕ) → j < length ls → (items : List Item) × (get_or ls j nobody ≡ starting (k + j) n policy limits items)) → tokens_of ls ≡ cond (eqb k 0 && ltb 0 (length ls)) 1 0
  starts_tokens n k [] f = elim (eqb k 0) as (λ b. ◌≡◌ {A = ℕ} 0 (cond (b && ltb 0 (length {A = Local} [])) 1 0)) [ true ↦ refl | false ↦ refl ]
  starts_tokens n k (s ∷ ls) f =
      let h = f 0 (omega arith) in
      let here : tokens_at s ≡ cond (eqb (k + 0) 0) 1 0 = ap tokens_at h.1 ∙ one (k + 0) h.0 in
      let rest = starts_tokens n (k + 1) ls (λ j l. (let g = f (suc j) (omega (arith, l)) in let e : k + suc j ≡ k + 1 + j = omega arith in (g.0, g.1 ∙ ap (λ z. starting z n policy limits g.0) e))) in
      let z : eqb (k + 1) 0 ≡ false = grind (arith, nat_tests) in
      let z' : tokens_of ls ≡ 0 = rest ∙ rw z refl in
      let same : eqb (k + 0) 0 ≡ eqb k 0 = ap (λ m. eqb m 0) (let e : k + 0 ≡ k = omega arith in e) in
      let here' : tokens_at s ≡ cond (eqb k 0) 1 0 = here ∙ rw same refl in
      let some' : ltb 0 (length (s ∷ ls)) ≡ true = grind (arith, nat_tests, (let e : length (s ∷ ls) ≡ 1 + length ls = omega arith in e)) in
      rw some' (elim (eqb k 0) as (λ b. tokens_at s ≡ cond b 1 0 → tokens_at s + tokens_of ls ≡ cond (b && true) 1 0) [ true ↦ λ x. omega (arith, x, z') | false ↦ λ x. omega (arith, x, z') ] here')
    where
      one : (me : ℕ) (items : List Item) → tokens_at (starting me n policy limits items) ≡ cond (eqb me 0) 1 0
      one me items = elim (eqb me 0) as (λ b. cond (is_some (cond b (Some blank) None)) 1 0 + 0 ≡ cond b 1 0) [ true ↦ omega arith | false ↦ omega arith ]
        where
          blank : Token
          blank = record { one = []; two = [] }

  pub start_sound : (w : World) → IsStart p policy limits w → IsSound order p policy w
  start_sound w h = record {
    places = λ k l. (let f = h.fresh k l in rw f.2 (refl, refl, refl));
    spread = λ n k l. (let f = h.fresh k l in rw (f.2, h.travelling) (none n));
    truth = record { locals = λ k l. (let f = h.fresh k l in rw f.2 (start_local (record_of w) k (length w.locals) f.0 f.1)); travelling = rw h.travelling tt };
    contracted = λ k l. (let f = h.fresh k l in rw f.2 tt);
    counted = λ k l. (let f = h.fresh k l in rw f.2 (start_counted k (length w.locals) f.0 f.1));
    shares = λ k l. (let f = h.fresh k l in rw f.2 (record { known = tt; pending = share_shared k (length w.locals) 0 (clauses_of p) f.0 f.1 }));
    linked = λ k l. (let f = h.fresh k l in rw f.2 tt);
    pairs = λ k l a b. (let f = h.fresh k l in rw f.2 (record { both = λ x y. absurd (omega (arith, x)); first = λ _. refl; second = λ _. refl; once = omega arith; known_first = λ _. refl; known_second = λ _. refl }));
    solos = λ k l a. (let f = h.fresh k l in rw f.2 (record { both = λ x y. absurd (omega (arith, x)); first = λ _. refl; second = λ _. refl; once = omega arith; known_first = λ _. refl; known_second = λ _. refl }));
    told = λ k l. (let f = h.fresh k l in rw f.2 tt);
    tokens = (let t = starts_tokens (length w.locals) 0 w.locals (λ j l. (let f = h.fresh j l in let e : j ≡ 0 + j = omega arith in (f.0, f.2 ∙ ap (λ z. starting z (length w.locals) policy limits f.0) e))) in
        let some' : ltb 0 (length w.locals) ≡ true = grind (arith, nat_tests, h.some_peer) in
        let t' : tokens_of w.locals ≡ 1 = t ∙ rw some' refl in rw h.travelling (omega (arith, t')));
  }
    where
      none : (n : Name) → 0 ≡ issued n w
      none n = elim (cases_lt n.peer (length w.locals)) [ inl l ↦ (let f = h.fresh n.peer l in rw f.2 (let z : ltb n.seq 0 ≡ false = grind (arith, nat_tests) in rw z refl)) | inr o ↦ rw (get_or_past w.locals n.peer nobody o) (let z : ltb n.seq 0 ≡ false = grind (arith, nat_tests) in rw z refl) ]
