-- Each kind of step keeps the rule.
use Rattle.std.proofs.Common.{◌≡◌, ◌≢◌, ℕ, zero, suc, ◌+◌, ◌<◌, ◌==◌, ◌||◌, ◌⊎◌, true, false, cond, All, List, [], ◌∷◌, ◌++◌, length, set, refl, sym, ap, ◌∙◌, subst, ⊎_elim, arith, append_assoc, append-nil, eq-eqb, ne_eqb, inl, inr, true≢false}
use Rattle.std.proofs.lemmas.Bool.{eqb-true}
use Rattle.std.proofs.lemmas.List.Elements.{All-append, All-cons, All-nil, All-head, All-tail, filter-append}
use mathlib.Core.Option.{some, some-injective, some-ne-none}
use lib.ListN.{get_elem?}
use Rattle.crossbeam_queue.specs.Fifo.{Pushes, Pops, Forks, Merges, Learns}
use Rattle.crossbeam_queue.proofs.Lists.{at_set}
use Rattle.cd_mailbox.specs.declared.rule.View.{View}
use Rattle.cd_mailbox.specs.Views.{letters_of, part, view, has_in, has, posted_in, parts_from, newest, nothing, dealt, single, put_in, after_post, after_take, after_takes, named, grown, sealed, first_alone, others, joined}
use Rattle.cd_mailbox.specs.Rule.{Fits, IsFor, Delivers, Stood}
use Rattle.cd_mailbox.specs.Life.{Drains}
use Rattle.cd_mailbox.proofs.Parts.{has_put, put_same, put_other, has_append, posted_append, posted_from, has_from_below, below_from, parts_more, of_more, of_none}

-- ---- views in their places

module _ {L : Type 0} where
  abbrev Each : (ℕ → View L → Type 0) → List (View L) → Type 0
  Each F views = (pass : ℕ) (v : View L) → get_elem? views pass ≡ some v → F pass v

  -- after a change of one view
  each_set : (F : ℕ → View L → Type 0) (views : List (View L)) (pass : ℕ) (w : View L) → F pass w → ((j : ℕ) (u : View L) → j ≢ pass → get_elem? views j ≡ some u → F j u) → Each F (set views pass w)
  each_set F views pass w mine rest j u e =
      ⊎_elim (λ (x : (j ≡ pass) × (w ≡ u)). subst (λ (y : ℕ × View L). F y.0 y.1) (λ i. (sym x.0 i, x.1 i)) mine)
      (λ (x : (j ≢ pass) × (get_elem? views j ≡ some u)). rest j u x.0 x.1) (at_set views pass j w u e)

  at_more : (views : List (View L)) (w u : View L) (j : ℕ) → get_elem? (views ++ w ∷ []) j ≡ some u → (get_elem? views j ≡ some u) ⊎ ((j ≡ length views) × (w ≡ u))
  at_more [] w u zero e = inr (refl, some-injective w u e)
  at_more [] w u (suc j) e = absurd (some-ne-none u (sym e))
  at_more (x ∷ xs) w u zero e = inl e
  at_more (x ∷ xs) w u (suc j) e = ⊎_elim (λ y. inl y) (λ (y : (j ≡ length xs) × (w ≡ u)). inr (ap suc y.0, y.1)) (at_more xs w u j e)

  -- with a new view at the end
  each_more : (F : ℕ → View L → Type 0) (views : List (View L)) (w : View L) → Each F views → F (length views) w → Each F (views ++ w ∷ [])
  each_more F views w old new j u e =
      ⊎_elim (λ (x : get_elem? views j ≡ some u). old j u x)
      (λ (x : (j ≡ length views) × (w ≡ u)). subst (λ (y : ℕ × View L). F y.0 y.1) (λ i. (sym x.0 i, x.1 i)) new) (at_more views w u j e)

-- ---- numbers that are held

module _ {L : Type 0} (peers owner : ℕ) (holder : ℕ → ℕ) (posted : ℕ → List L) (taken : List L) where
  -- a number that another pass holds is not of this one
  apart : (j pass m n : ℕ) (u : View L) → j ≢ pass → Fits peers owner holder posted taken j u → holder m ≡ pass → has n u ≡ true → m ≢ n
  apart j pass m n u ne fits at hn e = ne (sym (fits.alone n hn) ∙ ap holder (sym e) ∙ at)

  nothing_fits : (pass : ℕ) → Fits peers owner holder posted taken pass nothing
  nothing_fits pass = record {
    mailbox = λ n hn. absurd (true≢false (sym hn));
    alone = λ n hn. absurd (true≢false (sym hn));
    below = λ n hn. absurd (true≢false (sym hn));
    sent = λ n hn. absurd (true≢false (sym hn));
    got = λ hn. absurd (true≢false (sym hn));
  }

module _ {L : Type 0} where
  pub has_own : (n : ℕ) (v : View L) → has_in n v.parts ≡ true → has n v ≡ true
  has_own n v h = elim v.opening as (λ b. (b || has_in n v.parts) ≡ true) [ true ↦ refl | false ↦ h ]

  own_has : (n : ℕ) (v : View L) → v.opening ≡ false → has n v ≡ true → has_in n v.parts ≡ true
  own_has n v closed h = ap (λ b. b || has_in n v.parts) (sym closed) ∙ h

-- ---- push

module _ {L : Type 0} where
  abbrev more : ℕ → L → (ℕ → List L) → ℕ → List L
  more s x posted p = cond (s == p) (posted p ++ x ∷ []) (posted p)

  more_other : (s p : ℕ) (x : L) (posted : ℕ → List L) → s ≢ p → more s x posted p ≡ posted p
  more_other s p x posted ne = ap (λ b. cond b (posted p ++ x ∷ []) (posted p)) (ne_eqb s p ne)

module _ {L : Type 0} (sender receiver : L → ℕ) where
  balance_more : (p : ℕ) (taken items : List L) (x : L) (posted : ℕ → List L) → letters_of sender p taken ++ letters_of sender p items ≡ posted p → letters_of sender p taken ++ letters_of sender p (items ++ x ∷ []) ≡ more (sender x) x posted p
  balance_more p taken items x posted b = rw (of_more sender p items x) (elim (sender x == p) as (λ t. letters_of sender p taken ++ cond t (letters_of sender p items ++ x ∷ []) (letters_of sender p items) ≡ cond t (posted p ++ x ∷ []) (posted p)) [
    | true ↦ sym (append_assoc (letters_of sender p taken) (letters_of sender p items) (x ∷ [])) ∙ ap (λ r. r ++ x ∷ []) b
    | false ↦ b
  ])

  post_fits : (peers owner : ℕ) (holder : ℕ → ℕ) (posted : ℕ → List L) (taken : List L) (pass : ℕ) (v : View L) (x : L) → has_in (sender x) v.parts ≡ true
      → Fits peers owner holder posted taken pass v → Fits peers owner holder (more (sender x) x posted) taken pass (after_post sender v x)
  post_fits peers owner holder posted taken pass v x holds fits =
      let was : (n : ℕ) → has n (after_post sender v x) ≡ true → has n v ≡ true = λ n hn. ap (λ r. v.opening || r) (sym (has_put (sender x) n x v.parts)) ∙ hn in record {
        mailbox = λ n hn. fits.mailbox n (was n hn);
        alone = λ n hn. fits.alone n (was n hn);
        below = λ n hn. fits.below n (sym (has_put (sender x) n x v.parts) ∙ hn);
        sent = λ n hn. elim (sender x == n) as (λ t. (sender x == n) ≡ t → posted_in n (put_in (sender x) x v.parts) ≡ cond t (posted n ++ x ∷ []) (posted n)) [
          | true ↦ λ e. let s = eqb-true (sender x) n e in
              subst (λ k. posted_in k (put_in (sender x) x v.parts) ≡ posted n ++ x ∷ []) s
              (put_same (sender x) x v.parts holds ∙ ap (λ k. posted_in k v.parts ++ x ∷ []) s ∙ ap (λ r. r ++ x ∷ []) (fits.sent n (was n hn)))
          | false ↦ λ e. put_other (sender x) n x v.parts (λ s. true≢false (sym (eq-eqb (sender x) n s) ∙ e)) ∙ fits.sent n (was n hn)
        ] refl;
        got = λ hn. fits.got (was owner hn);
      }

  pub posts : (n pass : ℕ) (v : View L) (x : L) → has_in (sender x) v.parts ≡ true → receiver x ≡ v.owner → Pushes (Delivers sender receiver) n pass v x (λ w. w ≡ after_post sender v x)
  posts n pass v x holds to items views room h at =
      let fits = h.fits pass v at in
      let had = has_own (sender x) v holds in
      let comes : IsFor sender receiver h.peers h.owner x = record { goes = to ∙ (fits.mailbox (sender x) had).1; comes = fits.below (sender x) holds } in (
        after_post sender v x,
        record {
          peers = h.peers;
          owner = h.owner;
          holder = h.holder;
          posted = more (sender x) x h.posted;
          taken = h.taken;
          addressed = All-append (IsFor sender receiver h.peers h.owner) items (x ∷ []) h.addressed (All-cons (IsFor sender receiver h.peers h.owner) x [] comes (All-nil (IsFor sender receiver h.peers h.owner)));
          balance = λ p. balance_more p h.taken items x h.posted (h.balance p);
          fits = each_set (Fits h.peers h.owner h.holder (more (sender x) x h.posted) h.taken) views pass (after_post sender v x) (post_fits h.peers h.owner h.holder h.posted h.taken pass v x holds fits)
              (λ j u ne e. let g = h.fits j u e in record {
                mailbox = g.mailbox;
                alone = g.alone;
                below = g.below;
                sent = λ m hm. g.sent m hm ∙ sym (more_other (sender x) m x h.posted (apart h.peers h.owner h.holder h.posted h.taken j pass (sender x) m u ne g (fits.alone (sender x) had) hm));
                got = g.got;
              });
        },
        refl,
      )

  -- ---- pop

  balance_taken : (p : ℕ) (taken items : List L) (x : L) → letters_of sender p (taken ++ x ∷ []) ++ letters_of sender p items ≡ letters_of sender p taken ++ letters_of sender p (x ∷ items)
  balance_taken p taken items x = rw (of_more sender p taken x) (elim (sender x == p) as (λ t. cond t (letters_of sender p taken ++ x ∷ []) (letters_of sender p taken) ++ letters_of sender p items ≡ letters_of sender p taken ++ cond t (x ∷ letters_of sender p items) (letters_of sender p items)) [
    | true ↦ append_assoc (letters_of sender p taken) (x ∷ []) (letters_of sender p items)
    | false ↦ refl
  ])

  pub takes : (pass : ℕ) (v : View L) → has v.owner v ≡ true → Pops (Delivers sender receiver) pass v (λ x w. (w ≡ after_take v x) × IsFor sender receiver v.peers v.owner x)
  takes pass v holds x items views h at =
      let fits = h.fits pass v at in
      let m = fits.mailbox v.owner holds in
      let mine : h.holder h.owner ≡ pass = ap h.holder (sym m.1) ∙ fits.alone v.owner holds in
      let first : IsFor sender receiver h.peers h.owner x = All-head (IsFor sender receiver h.peers h.owner) x items h.addressed in (
        after_take v x,
        record {
          peers = h.peers;
          owner = h.owner;
          holder = h.holder;
          posted = h.posted;
          taken = h.taken ++ x ∷ [];
          addressed = All-tail (IsFor sender receiver h.peers h.owner) x items h.addressed;
          balance = λ p. balance_taken p h.taken items x ∙ h.balance p;
          fits = each_set (Fits h.peers h.owner h.holder h.posted (h.taken ++ x ∷ [])) views pass (after_take v x)
              (record { mailbox = fits.mailbox; alone = fits.alone; below = fits.below; sent = fits.sent; got = λ hn. ap (λ r. r ++ x ∷ []) (fits.got hn) })
              (λ j u ne e. let g = h.fits j u e in record {
                mailbox = g.mailbox;
                alone = g.alone;
                below = g.below;
                sent = g.sent;
                got = λ hn. absurd (apart h.peers h.owner h.holder h.posted h.taken j pass h.owner h.owner u ne g mine hn refl);
              });
        },
        (refl, record { goes = first.goes ∙ sym m.1; comes = subst (λ k. sender x < k) (sym m.0) first.comes }),
      )

  pub learns : (pass : ℕ) (v : View L) → Learns (Delivers sender receiver) pass v (Stood sender receiver v)
  learns pass v items views h at = record { views = views; pass = pass; rule = h; there = at }

  -- of each sender whose number it holds, the owner's pass knows that what it took and then what the mailbox holds is what was posted
  pub balances : (v : View L) (items : List L) (p : ℕ) → Stood sender receiver v items → has v.owner v ≡ true → has p v ≡ true → letters_of sender p v.taken ++ letters_of sender p items ≡ posted_in p v.parts
  balances v items p s holds hp =
      let fits = s.rule.fits s.pass v s.there in
      let own = subst (λ n. has n v ≡ true) (fits.mailbox v.owner holds).1 holds in
      ap (λ r. letters_of sender p r ++ letters_of sender p items) (fits.got own) ∙ s.rule.balance p ∙ sym (fits.sent p hp)

  -- ---- opening

  pub begins : Delivers sender receiver [] (newest ∷ [])
  begins = record {
    peers = 0;
    owner = 0;
    holder = λ n. 0;
    posted = λ n. [];
    taken = [];
    addressed = All-nil (IsFor sender receiver 0 0);
    balance = λ p. refl;
    fits = each_more (Fits 0 0 (λ n. 0) (λ n. []) []) [] newest (λ j u e. absurd (some-ne-none u (sym e)))
        (record { mailbox = λ n hn. (refl, refl); alone = λ n hn. refl; below = λ n hn. absurd (true≢false (sym hn)); sent = λ n hn. refl; got = λ hn. refl });
  }

  empty_rest : (xs ys zs : List L) → xs ++ ys ≡ zs → zs ≡ [] → ys ≡ []
  empty_rest [] ys zs e n = e ∙ n
  empty_rest (x ∷ xs) ys zs e n = let z : x ∷ (xs ++ ys) ≡ [] = e ∙ n in cc

  -- Who holds every number, with nothing posted, is alone, and the mailbox is empty. So it may change the view, as long as nothing is posted there either.
  opens : (pass : ℕ) (v w : View L) → v.opening ≡ true → ((n : ℕ) → posted_in n v.parts ≡ []) → ((n : ℕ) → posted_in n w.parts ≡ []) → w.taken ≡ v.taken → ((n : ℕ) → has_in n w.parts ≡ true → n < w.peers)
      → Forks (Delivers sender receiver) pass v w nothing
  opens pass v w opening none still taken below items views h at =
      let fits = h.fits pass v at in
      let full : (n : ℕ) → has n v ≡ true = λ n. ap (λ r. r || has_in n v.parts) opening in
      let empty : items ≡ [] = of_none sender items (λ p. empty_rest (letters_of sender p h.taken) (letters_of sender p items) (h.posted p) (h.balance p) (sym (fits.sent p (full p)) ∙ none p)) in
      let free : (j n : ℕ) (u : View L) → j ≢ pass → get_elem? views j ≡ some u → has n u ≡ true → ⊥ = λ j n u ne e hn. apart h.peers h.owner h.holder h.posted h.taken j pass n n u ne (h.fits j u e) (fits.alone n (full n)) hn refl in record {
        peers = w.peers;
        owner = w.owner;
        holder = h.holder;
        posted = h.posted;
        taken = h.taken;
        addressed = subst (All (IsFor sender receiver w.peers w.owner)) (sym empty) (All-nil (IsFor sender receiver w.peers w.owner));
        balance = h.balance;
        fits = each_more (Fits w.peers w.owner h.holder h.posted h.taken) (set views pass w) nothing
            (each_set (Fits w.peers w.owner h.holder h.posted h.taken) views pass w
            (record {
              mailbox = λ n hn. (refl, refl);
              alone = λ n hn. fits.alone n (full n);
              below = below;
              sent = λ n hn. still n ∙ sym (none n) ∙ fits.sent n (full n);
              got = λ hn. taken ∙ fits.got (full h.owner);
            })
            (λ j u ne e. record {
              mailbox = λ n hn. absurd (free j n u ne e hn);
              alone = λ n hn. absurd (free j n u ne e hn);
              below = λ n hn. absurd (free j n u ne e (has_own n u hn));
              sent = λ n hn. absurd (free j n u ne e hn);
              got = λ hn. absurd (free j w.owner u ne e hn);
            }))
            (nothing_fits w.peers w.owner h.holder h.posted h.taken (length (set views pass w)));
      }

  pub names : (pass q : ℕ) (v : View L) → v ≡ view true 0 q [] [] → Forks (Delivers sender receiver) pass v (named v) nothing
  names pass q v is = subst (λ (y : View L). Forks (Delivers sender receiver) pass y (named y) nothing) (sym is)
      (opens pass (view true 0 q [] []) (view true 0 (q + 1) [] []) refl (λ n. refl) (λ n. refl) refl (λ n hn. absurd (true≢false (sym hn))))

  pub grows : (pass q k : ℕ) (v : View L) → v ≡ view true k q (parts_from 0 k) [] → Forks (Delivers sender receiver) pass v (grown v) nothing
  grows pass q k v is = subst (λ (y : View L). Forks (Delivers sender receiver) pass y (grown y) nothing) (sym is)
      (opens pass (view true k q (parts_from 0 k) []) (view true (k + 1) q (parts_from 0 k ++ part k [] ∷ []) []) refl
      (λ n. posted_from n 0 k)
      (λ n. ap (posted_in n) (parts_more k) ∙ posted_from n 0 (k + 1))
      refl
      (λ n hn. let lt = below_from L n 0 (k + 1) (ap (has_in n) (sym (parts_more k)) ∙ hn) in omega arith))

  pub seals : (pass q k : ℕ) (v : View L) → v ≡ view true k q (parts_from 0 k) [] → Forks (Delivers sender receiver) pass v (sealed v) nothing
  seals pass q k v is = subst (λ (y : View L). Forks (Delivers sender receiver) pass y (sealed y) nothing) (sym is)
      (opens pass (view true k q (parts_from 0 k) []) (view false k q (parts_from 0 k) []) refl (λ n. posted_from n 0 k) (λ n. posted_from n 0 k) refl
      (λ n hn. let lt = below_from L n 0 k hn in omega arith))

  -- ---- split

  gives_at : (pass peers q a k : ℕ) → Forks (Delivers sender receiver) pass (dealt peers q a (suc k)) (dealt peers q (a + 1) k) (single peers q a [] [])
  gives_at pass peers q a k items views h at =
      let v : View L = dealt peers q a (suc k) in
      let left : View L = dealt peers q (a + 1) k in
      let right : View L = single peers q a [] [] in
      let fits = h.fits pass v at in
      let had : has a v ≡ true = ap (λ b. b || has_in a (parts_from {L = L} (a + 1) k)) (eq-eqb a a refl) in
      let vs : List (View L) = set views pass left in
      let holder : ℕ → ℕ = λ n. cond (a == n) (length vs) (h.holder n) in
      let gone : (n : ℕ) → a ≢ n → holder n ≡ h.holder n = λ n ne. ap (λ b. cond b (length vs) (h.holder n)) (ne_eqb a n ne) in
      let was : (n : ℕ) → has n left ≡ true → has n v ≡ true = λ n hn. elim (a == n) as (λ b. (b || has_in n (parts_from {L = L} (a + 1) k)) ≡ true) [ true ↦ refl | false ↦ hn ] in
      let not_left : (n : ℕ) → has n left ≡ true → a ≢ n = λ n hn e. true≢false (sym hn ∙ ap (λ m. has_in m (parts_from {L = L} (a + 1) k)) (sym e) ∙ has_from_below L a (a + 1) k (omega arith)) in
      let is : (n : ℕ) → has n right ≡ true → a ≡ n = λ n hn. elim (a == n) as (λ b. (a == n) ≡ b → (b || false) ≡ true → a ≡ n) [ true ↦ λ t _. eqb-true a n t | false ↦ λ _ y. absurd (true≢false (sym y)) ] refl hn in record {
        peers = h.peers;
        owner = h.owner;
        holder = holder;
        posted = h.posted;
        taken = h.taken;
        addressed = h.addressed;
        balance = h.balance;
        fits = each_more (Fits h.peers h.owner holder h.posted h.taken) vs right
            (each_set (Fits h.peers h.owner holder h.posted h.taken) views pass left
            (record {
              mailbox = λ n hn. fits.mailbox n (was n hn);
              alone = λ n hn. gone n (not_left n hn) ∙ fits.alone n (was n hn);
              below = λ n hn. fits.below n (was n hn);
              sent = λ n hn. posted_from n (a + 1) k ∙ sym (posted_from n a (suc k)) ∙ fits.sent n (was n hn);
              got = λ hn. fits.got (was h.owner hn);
            })
            (λ j u ne e. let g = h.fits j u e in record {
              mailbox = g.mailbox;
              alone = λ n hn. gone n (apart h.peers h.owner h.holder h.posted h.taken j pass a n u ne g (fits.alone a had) hn) ∙ g.alone n hn;
              below = g.below;
              sent = g.sent;
              got = g.got;
            }))
            (record {
              mailbox = λ n hn. fits.mailbox a had;
              alone = λ n hn. ap (λ b. cond b (length vs) (h.holder n)) (eq-eqb a n (is n hn));
              below = λ n hn. subst (λ m. m < h.peers) (is n hn) (fits.below a had);
              sent = λ n hn. posted_from n a 1 ∙ sym (posted_from a a (suc k)) ∙ fits.sent a had ∙ ap h.posted (is n hn);
              got = λ hn. fits.got (subst (λ m. has m v ≡ true) (is h.owner hn) had);
            });
      }

  -- the first number of a view with more than none
  pub gives : (pass peers q a k : ℕ) (v : View L) → v ≡ dealt peers q a (suc k) → Forks (Delivers sender receiver) pass v (others v) (first_alone v)
  gives pass peers q a k v is = subst (λ (y : View L). Forks (Delivers sender receiver) pass y (others y) (first_alone y)) (sym is) (gives_at pass peers q a k)

  -- ---- join

  join_fits : (peers owner : ℕ) (holder : ℕ → ℕ) (posted : ℕ → List L) (taken : List L) (pass other : ℕ) (v w : View L) → v.opening ≡ false → w.opening ≡ false → v.peers ≡ w.peers → v.owner ≡ w.owner
      → Fits peers owner holder posted taken pass v → Fits peers owner holder posted taken other w → Fits peers owner (λ n. cond (has_in n w.parts) pass (holder n)) posted taken pass (joined v w)
  join_fits peers owner holder posted taken pass other v w closed closed' same_peers same_owner mine theirs =
      let either : (n : ℕ) → has n (joined v w) ≡ true → (has_in n v.parts ≡ true) ⊎ ((has_in n v.parts ≡ false) × (has_in n w.parts ≡ true)) = λ n hn.
      elim (has_in n v.parts) as (λ b. has_in n v.parts ≡ b → (has_in n v.parts ≡ true) ⊎ ((has_in n v.parts ≡ false) × (has_in n w.parts ≡ true))) [
        | true ↦ λ is. inl is
        | false ↦ λ is. inr (is, ap (λ b. b || has_in n w.parts) (sym is) ∙ sym (has_append n v.parts w.parts) ∙ hn)
      ] refl in
      let full : (n : ℕ) → has_in n v.parts ≡ true → has n v ≡ true = λ n h. has_own n v h in
      let full' : (n : ℕ) → has_in n w.parts ≡ true → has n w ≡ true = λ n h. has_own n w h in record {
        mailbox = λ n hn. ⊎_elim (λ (a : has_in n v.parts ≡ true). mine.mailbox n (full n a))
            (λ (b : (has_in n v.parts ≡ false) × (has_in n w.parts ≡ true)). let m = theirs.mailbox n (full' n b.1) in (same_peers ∙ m.0, same_owner ∙ m.1)) (either n hn);
        alone = λ n hn. elim (has_in n w.parts) as (λ b. has_in n w.parts ≡ b → cond b pass (holder n) ≡ pass) [
          | true ↦ λ is. refl
          | false ↦ λ is. ⊎_elim (λ (a : has_in n v.parts ≡ true). mine.alone n (full n a))
              (λ (b : (has_in n v.parts ≡ false) × (has_in n w.parts ≡ true)). absurd (true≢false (sym b.1 ∙ is))) (either n hn)
        ] refl;
        below = λ n hn. ⊎_elim (λ (a : has_in n v.parts ≡ true). mine.below n a) (λ (b : (has_in n v.parts ≡ false) × (has_in n w.parts ≡ true)). theirs.below n b.1) (either n hn);
        sent = λ n hn. posted_append n v.parts w.parts ∙ ⊎_elim
            (λ (a : has_in n v.parts ≡ true). ap (λ b. cond b (posted_in n v.parts) (posted_in n w.parts)) a ∙ mine.sent n (full n a))
            (λ (b : (has_in n v.parts ≡ false) × (has_in n w.parts ≡ true)). ap (λ t. cond t (posted_in n v.parts) (posted_in n w.parts)) b.0 ∙ theirs.sent n (full' n b.1)) (either n hn);
        got = λ hn. ⊎_elim
            (λ (a : has_in owner v.parts ≡ true). let m = mine.mailbox owner (full owner a) in ap (λ b. cond b v.taken w.taken) (ap (λ n. has n v) m.1 ∙ full owner a) ∙ mine.got (full owner a))
            (λ (b : (has_in owner v.parts ≡ false) × (has_in owner w.parts ≡ true)). let m = theirs.mailbox owner (full' owner b.1) in
            ap (λ t. cond t v.taken w.taken) (ap (λ n. has n v) (same_owner ∙ m.1) ∙ ap (λ t. t || has_in owner v.parts) closed ∙ b.0) ∙ theirs.got (full' owner b.1)) (either owner hn);
      }

  pub joins : (pass : ℕ) (v : View L) (other : ℕ) (w : View L) → v.opening ≡ false → w.opening ≡ false → v.peers ≡ w.peers → v.owner ≡ w.owner → Merges (Delivers sender receiver) pass v other w (joined v w) nothing
  joins pass v other w closed closed' same_peers same_owner items views h at two at' =
      let was : get_elem? views other ≡ some w = ⊎_elim (λ x. absurd (two x.0)) (λ x. x.1) (at_set views pass other (joined v w) w at') in
      let theirs = h.fits other w was in
      let holder : ℕ → ℕ = λ n. cond (has_in n w.parts) pass (h.holder n) in
      let F : ℕ → View L → Type 0 = λ j u. j ≢ other → Fits h.peers h.owner holder h.posted h.taken j u in
      let now : Each F (set views pass (joined v w)) =
      each_set F views pass (joined v w) (λ _. join_fits h.peers h.owner h.holder h.posted h.taken pass other v w closed closed' same_peers same_owner (h.fits pass v at) theirs)
      (λ j u ne e no. let g = h.fits j u e in
      let out : (n : ℕ) → has n u ≡ true → has_in n w.parts ≡ false = λ n hn. elim (has_in n w.parts) as (λ b. has_in n w.parts ≡ b → b ≡ false) [
        | true ↦ λ t. absurd (no (sym (g.alone n hn) ∙ theirs.alone n (has_own n w t)))
        | false ↦ λ t. refl
      ] refl in record {
        mailbox = g.mailbox;
        alone = λ n hn. ap (λ b. cond b pass (h.holder n)) (out n hn) ∙ g.alone n hn;
        below = g.below;
        sent = g.sent;
        got = g.got;
      }) in record {
        peers = h.peers;
        owner = h.owner;
        holder = holder;
        posted = h.posted;
        taken = h.taken;
        addressed = h.addressed;
        balance = h.balance;
        fits = each_set (Fits h.peers h.owner holder h.posted h.taken) (set views pass (joined v w)) other nothing (nothing_fits h.peers h.owner holder h.posted h.taken other) (λ j u no e. now j u e no);
      }

  -- ---- the end

  pub drains : (v u : View L) (left : List L) → has_in v.owner v.parts ≡ true → u ≡ after_takes v left → Stood sender receiver u [] → All (IsFor sender receiver v.peers v.owner) left → Drains sender receiver v left
  drains v u left holds is stood all = record {
    balance = λ p hp.
        let b = balances (after_takes v left) [] p (subst (λ y. Stood sender receiver y []) is stood) (has_own v.owner (after_takes v left) holds) (has_own p (after_takes v left) hp) in
        sym (filter-append (λ x. sender x == p) v.taken left) ∙ sym (append-nil (letters_of sender p (v.taken ++ left))) ∙ b;
    addressed = all;
  }

  -- one letter more is taken from the mailbox that is emptied
  pub drains_more : (v u w : View L) (left reserved more : List L) (x : L) → u ≡ after_takes v left → w ≡ after_take u x → reserved ≡ left → more ≡ reserved ++ x ∷ [] → All (IsFor sender receiver v.peers v.owner) left → IsFor sender receiver u.peers u.owner x
      → (w ≡ after_takes v more) × All (IsFor sender receiver v.peers v.owner) more
  drains_more v u w left reserved more x is next same one all comes =
      let e : more ≡ left ++ x ∷ [] = one ∙ ap (λ l. l ++ x ∷ []) same in
      let one' : IsFor sender receiver v.peers v.owner x = subst (λ (y : View L). IsFor sender receiver y.peers y.owner x) is comes in (
        next ∙ ap (λ y. after_take y x) is ∙ ap (λ l. view v.opening v.peers v.owner v.parts l) (append_assoc v.taken left (x ∷ [])) ∙ ap (after_takes v) (sym e),
        subst (All (IsFor sender receiver v.peers v.owner)) (sym e) (All-append (IsFor sender receiver v.peers v.owner) left (x ∷ []) all (All-cons (IsFor sender receiver v.peers v.owner) x [] one' (All-nil (IsFor sender receiver v.peers v.owner)))),
      )
