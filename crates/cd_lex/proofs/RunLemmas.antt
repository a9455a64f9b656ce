-- Runs of bytes that pass a test.
use Rattle.std.proofs.Common.{◌≡◌, ◌≢◌, ◌∙◌, ◌+◌, ◌<◌, ◌≤◌, ◌++◌, ◌∷◌, [], ℕ, Bool, true, false, length, drop, get_or, refl, sym, ap, subst, arith, true≢false}
use Rattle.std.specs.List.{list_all}
use Rattle.std.proofs.lemmas.Bool.{and_parts, and_from}
use Rattle.cd_lex.specs.Bytes.{Bytes}
use Rattle.cd_lex.specs.Scans.{Stops, EndsRun, Ends}
use Rattle.cd_lex.specs.Tokens.{Many, AtLeastOne, BeginsNo}
use Rattle.cd_lex.proofs.PlaceLemmas.{from_place, past_end}

pub run_here : (test : ℕ → Bool) (bytes : Bytes) (at : ℕ) → Stops test (drop at bytes) → EndsRun test (drop at bytes) at at
run_here test bytes at stops = record { run = []; rest = drop at bytes; pass = refl; stops = stops; split = refl; place = omega arith }

pub stops_end : (test : ℕ → Bool) (bytes : Bytes) (at : ℕ) → length bytes ≤ at → Stops test (drop at bytes)
stops_end test bytes at past = subst (Stops test) (sym (past_end bytes at past)) tt

pub stops_at : (test : ℕ → Bool) (bytes : Bytes) (at : ℕ) → at < length bytes → test (get_or bytes at 0) ≡ false → Stops test (drop at bytes)
stops_at test bytes at lt fails = subst (Stops test) (sym (from_place bytes at lt)) fails

pub run_more : (test : ℕ → Bool) (bytes : Bytes) (at e : ℕ) → at < length bytes → test (get_or bytes at 0) ≡ true → EndsRun test (drop (at + 1) bytes) (at + 1) e → EndsRun test (drop at bytes) at e
run_more test bytes at e lt passes r = record {
  run = get_or bytes at 0 ∷ r.run;
  rest = r.rest;
  pass = and_from (test (get_or bytes at 0)) (list_all test r.run) passes r.pass;
  stops = r.stops;
  split = from_place bytes at lt ∙ ap (λ (l : Bytes). get_or bytes at 0 ∷ l) r.split;
  place = omega (arith, r.place);
}

-- no run of bytes that pass goes past the first that fails
pub run_longest : (test : ℕ → Bool) (run rest xs r : Bytes) → Stops test rest → list_all test xs ≡ true → run ++ rest ≡ xs ++ r → length xs ≤ length run
run_longest test run rest [] r stops pass e = omega arith
run_longest test [] [] (x ∷ xs) r stops pass e = let bad : [] ≡ x ∷ (xs ++ r) = e in absurd (cc)
run_longest test [] (y ∷ rest) (x ∷ xs) r stops pass e =
    let same : y ≡ x = cc in
    absurd (true≢false (sym (and_parts (test x) (list_all test xs) pass).0 ∙ ap test (sym same) ∙ stops))
run_longest test (y ∷ run) rest (x ∷ xs) r stops pass e =
    let tails : run ++ rest ≡ xs ++ r = cc in
    let more : length xs ≤ length run = run_longest test run rest xs r stops (and_parts (test x) (list_all test xs) pass).1 tails in omega arith

-- a run that isn't empty, as a form
pub run_form : (test : ℕ → Bool) (bytes : Bytes) (from end : ℕ) → EndsRun test bytes from end → end ≢ from → Ends (AtLeastOne test) bytes from end
run_form test bytes from end r some = record {
  text = r.run;
  longest = record {
    rest = r.rest;
    split = r.split;
    is = ((λ e. some (let n : length r.run ≡ 0 = ap length e in omega (arith, r.place))), r.pass);
    longest = λ other after is e. run_longest test r.run r.rest other after r.stops is.1 (sym r.split ∙ e);
  };
  place = r.place;
}

-- an empty run
pub no_run : (test : ℕ → Bool) (bytes : Bytes) (from end : ℕ) → EndsRun test bytes from end → end ≡ from → BeginsNo (AtLeastOne test) bytes
no_run test bytes from end r none = record { no = λ text rest is e. nothing text (run_longest test r.run r.rest text rest r.stops is.1 (sym r.split ∙ e)) is.0 }
  where
    nothing : (text : Bytes) → length text ≤ length r.run → text ≢ [] → ⊥
    nothing [] le some = some refl
    nothing (x ∷ text) le some = omega (arith, r.place)

-- a run, empty or not, as a form
pub run_many : (test : ℕ → Bool) (bytes : Bytes) (from end : ℕ) → EndsRun test bytes from end → Ends (Many test) bytes from end
run_many test bytes from end r = record {
  text = r.run;
  longest = record {
    rest = r.rest;
    split = r.split;
    is = r.pass;
    longest = λ other after is e. run_longest test r.run r.rest other after r.stops is (sym r.split ∙ e);
  };
  place = r.place;
}
