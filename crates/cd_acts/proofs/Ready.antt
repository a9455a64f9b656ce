-- The first waiting letter that is ready.
use Rattle.std.proofs.Common.{◌≡◌, ℕ, zero, suc, Bool, true, false, ◌&&◌, cond, List, [], ◌∷◌, ◌++◌, length, map, refl, ap, sym, ◌∙◌, subst}
use Rattle.std.specs.Prelude.{Option, Some, None, MatchOption, slice_get}
use Rattle.std.specs.List.{AllByRecursion as Each, list_all}
use Rattle.std.specs.Option.{option_map}
use Rattle.cd_ledger.specs.declared.letters.Body.{Body}
use Rattle.cd_ledger.specs.declared.letters.Body.TheVariants as body
use Rattle.cd_ledger.specs.declared.letters.Letter.{Letter}
use Rattle.cd_ledger.specs.declared.local.Local.{Local}
use Rattle.cd_ledger.specs.declared.records.Known.{Known}
use Rattle.cd_ledger.specs.Records.{is_known}
use Rattle.cd_machine.specs.Fits.{is_ready}
use Rattle.cd_machine.specs.Turns.{IsFirstReady, NoneReady}
use Rattle.cd_names.specs.declared.names.Name.{Name}
use Rattle.cd_waiting.specs.declared.waiting.Waiter.{Waiter}
use Rattle.cd_waiting.specs.Ready.{first_ready}
use Rattle.cd_acts.specs.Indexed.{HasNeeds, body_needs}
use Rattle.cd_acts.specs.View.{letter_of}

and_true_right : (b : Bool) → b ≡ (b && true)
and_true_right true = refl
and_true_right false = refl

ready_needs : (es : List Known) (b : Body) (l : Letter) → l.body ≡ b → is_ready es l ≡ list_all (is_known es) (body_needs b)
ready_needs es (body.Kept r) l e = ap (λ (x : Body). is_ready es (record l { body = x })) e
ready_needs es (body.Notice of by h) l e = ap (λ (x : Body). is_ready es (record l { body = x })) e ∙ ap (λ b. is_known es of && b) (and_true_right (is_known es by))
ready_needs es (body.Token t) l e = ap (λ (x : Body). is_ready es (record l { body = x })) e

module _ (es : List Known) (test : Name → Bool) (agrees : (n : Name) → test n ≡ is_known es n) where
  all_known : (ns : List Name) → list_all test ns ≡ list_all (is_known es) ns
  all_known [] = refl
  all_known (n ∷ ns) = ap (λ b. b && list_all test ns) (agrees n) ∙ ap (λ b. is_known es n && b) (all_known ns)

  ready_by : (w : Waiter Letter) → HasNeeds w → is_ready es w.letter ≡ list_all test w.needs
  ready_by w h = ready_needs es w.letter.body w.letter refl ∙ sym (ap (λ ns. list_all test ns) h ∙ all_known (body_needs w.letter.body))

  none_later : (o : Option ℕ) → None ≡ option_map suc o → None ≡ o
  none_later None e = refl
  none_later (Some k) e = absurd cc

  some_later : (o : Option ℕ) (k : ℕ) → Some k ≡ option_map suc o → (j : ℕ) × (Some j ≡ o) × (k ≡ suc j)
  some_later None k e = absurd cc
  some_later (Some j) k e = (j, refl, cc)

  none_ready : (ws : List (Waiter Letter)) → Each HasNeeds ws → None ≡ first_ready test ws → Each (λ l. is_ready es l ≡ false) (map letter_of ws)
  none_ready [] h e = tt
  none_ready (w ∷ ws) h e = go (list_all test w.needs) (ready_by w h.0) e (none_ready ws h.1)
    where
      go : (b : Bool) → is_ready es w.letter ≡ b → None ≡ cond b (Some 0) (option_map suc (first_ready test ws)) → (None ≡ first_ready test ws → Each (λ l. is_ready es l ≡ false) (map letter_of ws))
          → (is_ready es w.letter ≡ false) × Each (λ l. is_ready es l ≡ false) (map letter_of ws)
      go true x y rest = absurd cc
      go false x y rest = (x, rest (none_later (first_ready test ws) y))

  pub record FoundFirst (ls : List Letter) (k : ℕ) : Type 0 where
    pub front : List Letter
    pub letter : Letter
    pub back : List Letter
    pub split : ls ≡ front ++ letter ∷ back
    pub at : k ≡ length front
    pub ready : is_ready es letter ≡ true
    pub first : Each (λ l. is_ready es l ≡ false) front

  some_ready : (ws : List (Waiter Letter)) → Each HasNeeds ws → (k : ℕ) → Some k ≡ first_ready test ws → FoundFirst (map letter_of ws) k
  some_ready [] h k e = absurd cc
  some_ready (w ∷ ws) h k e = go (list_all test w.needs) (ready_by w h.0) e (some_ready ws h.1)
    where
      go : (b : Bool) → is_ready es w.letter ≡ b → Some k ≡ cond b (Some 0) (option_map suc (first_ready test ws)) → ((j : ℕ) → Some j ≡ first_ready test ws → FoundFirst (map letter_of ws) j) → FoundFirst (w.letter ∷ map letter_of ws) k
      go true x y rest = record { front = []; letter = w.letter; back = map letter_of ws; split = refl; at = (let z : Some k ≡ Some 0 = y in cc); ready = x; first = tt }
      go false x y rest =
          let j = some_later (first_ready test ws) k y in
          let f = rest j.0 j.1 in
          record { front = w.letter ∷ f.front; letter = f.letter; back = f.back; split = ap (λ ls. w.letter ∷ ls) f.split; at = j.2 ∙ ap suc f.at; ready = f.ready; first = (x, f.first) }

  pub first_is : (s : Local) (ws : List (Waiter Letter)) (o : Option ℕ) → s.known ≡ es → s.waiting ≡ map letter_of ws → Each HasNeeds ws → o ≡ first_ready test ws → MatchOption o (NoneReady s) (IsFirstReady s)
  first_is s ws None known waiting h e =
      subst (λ (x : List Known). Each (λ l. is_ready x l ≡ false) s.waiting) (sym known) (subst (λ (ls : List Letter). Each (λ l. is_ready es l ≡ false) ls) (sym waiting) (none_ready ws h e))
  first_is s ws (Some k) known waiting h e =
      let f = some_ready ws h k e in
      record {
        front = f.front;
        letter = f.letter;
        back = f.back;
        split = waiting ∙ f.split;
        at = f.at;
        ready = subst (λ (x : List Known). is_ready x f.letter ≡ true) (sym known) f.ready;
        first = subst (λ (x : List Known). Each (λ l. is_ready x l ≡ false) f.front) (sym known) f.first;
      }
