-- The outcome of a call, by the answer.
use Rattle.std.proofs.Common.{◌≡◌, ◌≢◌, ◌<◌, ◌∙◌, Result, Ok, Err, IfOk, ℕ, false, List, Option, Some, None, refl, sym, subst, inl, inr, ◌⊎◌, arith}
use Rattle.std.proofs.lemmas.Bool.{cases_lt}
use Rattle.std.specs.Option.{is_some}
use Rattle.cd_options.specs.Options.{IsCount, Spell, values_of}
use Rattle.cd_options.specs.declared.options.Options.{Options}
use Rattle.cd_read.specs.Fetched.{Told, Holds, IsOfLibrary}
use Rattle.cd_read.specs.declared.problem.Problem.{Problem}
use Rattle.cd_read.specs.declared.reader.ReadFault.{ReadFault}
use Rattle.cd_read.specs.declared.reader.ReadFault.TheVariants as failure
use Rattle.cd_top.specs.Asked.{AreWordsOf, AskForNothing, HasOptions, IsAsked, NeedsThreads}
use Rattle.cd_top.specs.declared.answer.Account.{Account}
use Rattle.cd_top.specs.declared.answer.Answer.{Answer}
use Rattle.cd_top.specs.declared.answer.Answer.TheVariants.{Refuted, Saturated, Spent, Limit, Usage, Refused, LibraryFault, SinkFault, Memory}
use Rattle.cd_top.specs.Ends.{HasNoRun, IsForgotten, IsKept, IsMade, IsRunAnswer, IsSolved, IsUnreadAnswer, IsUnsolved}
use Rattle.cd_top.specs.Headline.{IsLibraryFault, IsProblemOf, IsProblemTaken, IsRead, IsUnread, IsUnreadOf, Refutes, RunEnds, TextIs}
use Rattle.cd_top.proofs.Ending.{accounts_for_all, is_contracted, keeps_models, run_refutes}

-- ---- without a run

no_run_ends : (a : Account) (made : Answer) → HasNoRun a → RunEnds a made a.problem
no_run_ends a made h = subst (RunEnds a made) (sym h.problem) (h.journals, h.order)

-- ---- an answer of a run

run_asked : (o : Options) (asked : Option Options) (made : Answer) → IsRunAnswer made → asked ≡ Some o → IsAsked o made asked
run_asked o asked (Refuted peer) run is = is
run_asked o asked Saturated run is = is
run_asked o asked (Spent peer) run is = is
run_asked o asked (Limit peer b) run is = is
run_asked o asked Usage run is = absurd run
run_asked o asked (Refused w) run is = absurd run
run_asked o asked (LibraryFault path) run is = absurd run
run_asked o asked SinkFault run is = absurd run
run_asked o asked Memory run is = absurd run

run_read : (asked : Option Options) (holds : Holds) (before now : Told) (made : Answer) (problem : Option Problem) → IsRunAnswer made → IsProblemTaken asked holds before now problem → IsRead asked holds before now made problem
run_read asked holds before now (Refuted peer) problem run is = is
run_read asked holds before now Saturated problem run is = is
run_read asked holds before now (Spent peer) problem run is = is
run_read asked holds before now (Limit peer b) problem run is = is
run_read asked holds before now Usage problem run is = absurd run
run_read asked holds before now (Refused w) problem run is = absurd run
run_read asked holds before now (LibraryFault path) problem run is = absurd run
run_read asked holds before now SinkFault problem run is = absurd run
run_read asked holds before now Memory problem run is = absurd run

run_library : (made : Answer) (fails : Type 0) → IsRunAnswer made → IsLibraryFault made → fails
run_library (Refuted peer) fails run library = absurd library
run_library Saturated fails run library = absurd library
run_library (Spent peer) fails run library = absurd library
run_library (Limit peer b) fails run library = absurd library
run_library Usage fails run library = absurd run
run_library (Refused w) fails run library = absurd run
run_library (LibraryFault path) fails run library = absurd run
run_library SinkFault fails run library = absurd run
run_library Memory fails run library = absurd run

run_text : (made : Answer) (text : List ℕ) → IsRunAnswer made → TextIs made text
run_text (Refuted peer) text run = tt
run_text Saturated text run = tt
run_text (Spent peer) text run = tt
run_text (Limit peer b) text run = tt
run_text Usage text run = absurd run
run_text (Refused w) text run = absurd run
run_text (LibraryFault path) text run = absurd run
run_text SinkFault text run = absurd run
run_text Memory text run = absurd run

pub run_first : (made : Answer) → IsRunAnswer made → made ≢ SinkFault
run_first (Refuted peer) run is = absurd (cc is)
run_first Saturated run is = absurd (cc is)
run_first (Spent peer) run is = absurd (cc is)
run_first (Limit peer b) run is = absurd (cc is)
run_first Usage run is = absurd run
run_first (Refused w) run is = absurd run
run_first (LibraryFault path) run is = absurd run
run_first SinkFault run is = absurd run
run_first Memory run is = absurd run

pub solved_made : (o : Options) (holds : Holds) (before now : Told) (fails : Type 0) (p : Problem) (made : Answer) (a : Account)
    → IsProblemOf o.source holds before now p → IsSolved o p made a → IsMade o holds before now fails made a
solved_made o holds before now fails p made a is out = record {
  asked = run_asked o a.asked made out.answer out.asked;
  options = subst (HasOptions a) (sym out.asked) out.values;
  read = run_read a.asked holds before now made a.problem out.answer
      (subst (λ (x : Option Options). IsProblemTaken x holds before now a.problem) (sym out.asked) (subst (IsProblemTaken (Some o) holds before now) (sym out.problem) is));
  library = run_library made fails out.answer;
  run = subst (RunEnds a made) (sym out.problem) out.run;
  models = keeps_models a a.problem;
  accounted = accounts_for_all a a.problem;
  contracted = is_contracted a a.problem;
  refutes = subst (Refutes made) (sym out.problem) (run_refutes a made p out.run);
  text = run_text made a.text out.answer;
}

-- ---- an answer without a problem

pub unread_first : (fault : ReadFault) (made : Answer) → IsUnreadAnswer fault made → made ≢ SinkFault
unread_first (failure.Library path) made is h = absurd (cc (is, h))
unread_first (failure.Wrong w) made is h = absurd (cc (is, h))
unread_first failure.Memory made is h = absurd is

module _ (o : Options) (holds : Holds) (before now : Told) (fails : Type 0) where
  -- the parts of the outcome that depend on the cause
  record Unread (made : Answer) (a : Account) : Type 0 where
    asked : IsAsked o made a.asked
    read : IsRead a.asked holds before now made a.problem
    library : IsLibraryFault made → fails
    refutes : Refutes made a.problem

  by_fault : (fault : ReadFault) (made : Answer) (a : Account) → a.problem ≡ None → a.asked ≡ Some o → (fault ≢ failure.Memory → IsUnreadOf o.source holds before now fault) → (IsOfLibrary fault → fails)
      → IsUnreadAnswer fault made → Unread made a
  by_fault (failure.Library path) made a none asked why rose is = subst (λ (m : Answer). Unread m a) (sym is) (record {
    asked = asked;
    read = (none, subst (λ (x : Option Options). IsUnread x holds before now (failure.Library path)) (sym asked) (why (λ h. absurd (cc h))));
    library = λ l. rose tt;
    refutes = tt;
  })
  by_fault (failure.Wrong w) made a none asked why rose is = subst (λ (m : Answer). Unread m a) (sym is) (record {
    asked = asked;
    read = (none, subst (λ (x : Option Options). IsUnread x holds before now (failure.Wrong w)) (sym asked) (why (λ h. absurd (cc h))));
    library = λ l. absurd l;
    refutes = tt;
  })
  by_fault failure.Memory made a none asked why rose is = absurd is

  pub unread_made : (fault : ReadFault) (made : Answer) (a : Account) → (fault ≢ failure.Memory → IsUnreadOf o.source holds before now fault) → (IsOfLibrary fault → fails)
      → IsUnreadAnswer fault made → IsUnsolved o made a → IsMade o holds before now fails made a
  unread_made fault made a why rose is out =
      let parts = by_fault fault made a out.alone.problem out.asked why rose is in
      record {
        asked = parts.asked;
        options = subst (HasOptions a) (sym out.asked) out.values;
        read = parts.read;
        library = parts.library;
        run = no_run_ends a made out.alone;
        models = keeps_models a a.problem;
        accounted = accounts_for_all a a.problem;
        contracted = is_contracted a a.problem;
        refutes = parts.refutes;
        text = out.text;
      }

  -- ---- want of memory

  pub memory_made : (made : Answer) (a : Account) → IsForgotten made a → IsMade o holds before now fails made a
  memory_made made a h =
      let is = sym h.memory in
      record {
        asked = subst (λ (m : Answer). IsAsked o m a.asked) is h.empty.asked;
        options = subst (HasOptions a) (sym h.empty.asked) h.empty.defaults;
        read = subst (λ (m : Answer). IsRead a.asked holds before now m a.problem) is h.empty.alone.problem;
        library = λ l. absurd (subst IsLibraryFault h.memory l);
        run = no_run_ends a made h.empty.alone;
        models = keeps_models a a.problem;
        accounted = accounts_for_all a a.problem;
        contracted = is_contracted a a.problem;
        refutes = subst (λ (m : Answer). Refutes m a.problem) is tt;
        text = subst (λ (m : Answer). TextIs m a.text) is h.text;
      }

  -- what was made is kept, or memory ran out
  pub kept_made : (made : Answer) (a : Account) (result : Answer) (left : Account) → IsMade o holds before now fails made a → IsKept made a result left → IsMade o holds before now fails result left
  kept_made made a result left h (inl same) =
      subst (λ (m : Answer). IsMade o holds before now fails m left) (sym same.0) (subst (λ (b : Account). IsMade o holds before now fails made b) (sym same.1) h)
  kept_made made a result left h (inr lost) = memory_made result left lost

-- ---- words

pub words_asked : (words : List (List ℕ)) (o : Options) (asked : Option Options) → Spell words o → (NeedsThreads o → ⊥) → (made : Answer) → IsAsked o made asked → AreWordsOf words made asked
words_asked words o asked spell apart (Refuted peer) is = subst (λ (x : Option Options). AreWordsOf words (Refuted peer) x) (sym is) (spell, apart)
words_asked words o asked spell apart Saturated is = subst (λ (x : Option Options). AreWordsOf words Saturated x) (sym is) (spell, apart)
words_asked words o asked spell apart (Spent peer) is = subst (λ (x : Option Options). AreWordsOf words (Spent peer) x) (sym is) (spell, apart)
words_asked words o asked spell apart (Limit peer b) is = subst (λ (x : Option Options). AreWordsOf words (Limit peer b) x) (sym is) (spell, apart)
words_asked words o asked spell apart Usage is = absurd is
words_asked words o asked spell apart (Refused w) is = subst (λ (x : Option Options). AreWordsOf words (Refused w) x) (sym is) (spell, apart)
words_asked words o asked spell apart (LibraryFault path) is = subst (λ (x : Option Options). AreWordsOf words (LibraryFault path) x) (sym is) (spell, apart)
words_asked words o asked spell apart SinkFault is = absurd is
words_asked words o asked spell apart Memory is = is

-- words that ask for nothing that can be had
pub usage_words : (words : List (List ℕ)) (made : Answer) (asked : Option Options) → asked ≡ None → AskForNothing words → (made ≡ Usage) ⊎ (made ≡ Memory) → AreWordsOf words made asked
usage_words words made asked none nothing (inl is) = subst (λ (m : Answer). AreWordsOf words m asked) (sym is) (none, nothing)
usage_words words made asked none nothing (inr is) = subst (λ (m : Answer). AreWordsOf words m asked) (sym is) none

-- several peers without a schedule need threads
more_than_one : (given : Option (List ℕ)) (n : ℕ) → IsCount 1 1 64 given n → n ≢ 1 → 1 < n
more_than_one None n is other = absurd (other is)
more_than_one (Some text) n is other = elim (cases_lt 1 n) [ inl l ↦ l | inr ge ↦ absurd (other (omega (arith, is.1, ge))) ]

pub is_free : (o : Option ℕ) → is_some o ≡ false → o ≡ None
is_free None h = refl
is_free (Some n) h = absurd (cc h)

pub needs_threads : (words : List (List ℕ)) (o : Options) → Spell words o → o.schedule ≡ None → o.peers ≢ 1 → AskForNothing words
needs_threads words o spell free other = inr (o, spell, (more_than_one (values_of spell.given).peers o.peers spell.asks.peers other, free))

pub usage_or_memory : (made result : Answer) (a left : Account) → made ≡ Usage → IsKept made a result left → (result ≡ Usage) ⊎ (result ≡ Memory)
usage_or_memory made result a left is (inl same) = inl (same.0 ∙ is)
usage_or_memory made result a left is (inr lost) = inr lost.memory

pub if_ok : {X E : Type 0} {P Q : X → Type 0} (r : Result X E) → ((x : X) → P x → Q x) → IfOk r P → IfOk r Q
if_ok (Ok x) f p = f x p
if_ok (Err e) f p = tt

pub if_ok2 : {X E : Type 0} {P Q R : X → Type 0} (r : Result X E) → ((x : X) → P x → Q x → R x) → IfOk r P → IfOk r Q → IfOk r R
if_ok2 (Ok x) f p q = f x p q
if_ok2 (Err e) f p q = tt
