-- The journals of a run hold its events, each at its peer, and give them back in the order of their peers.
use Rattle.std.proofs.Common.{◌≡◌, ℕ, zero, suc, ◌*◌, ◌<◌, List, [], ◌∷◌, ◌++◌, length, map, refl, ap, sym, ◌∙◌, arith, replicate, length-set}
use Rattle.std.specs.Prelude.{Some, slice_get, slice_index_or, slice_set, sum_by}
use Rattle.std.specs.List.{AllByRecursion as Each}
use Rattle.std.proofs.lemmas.List.{append_assoc, append-nil, ext_get_or, get_or-map, get_or-replicate, get_or-set_same, length-map, length-replicate, map-set, set-get_or, set-set}
use Rattle.std.proofs.lemmas.List.Folds.{sum_by-replicate}
use Rattle.std.proofs.lemmas.List.Sums.{sum_by-set}
use Rattle.std.proofs.lemmas.Option.{slice_get-get_or}
use Rattle.cd_kbo.specs.declared.order.Order.{Order}
use Rattle.cd_laws.proofs.Steps.{step_length}
use Rattle.cd_ledger.specs.declared.events.Event.{Event}
use Rattle.cd_ledger.specs.declared.local.Limits.{Limits}
use Rattle.cd_machine.specs.Events.{after}
use Rattle.cd_machine.specs.World.{IsStart, Run, World, WorldStep, at, nobody}
use Rattle.cd_names.specs.declared.ownership.Policy.{Policy}
use Rattle.cd_read.specs.declared.problem.Problem.{Problem}
use Rattle.cd_recorded.specs.Laws.{RunsAreJournalled}
use Rattle.cd_recorded.specs.Recorded.{journal_of, peer_of, recorded, with_first}

-- ---- the parts of a list of events, one for each peer

abbrev put_front : ℕ → Event → List (List Event) → List (List Event)
put_front q e ps = slice_set ps q (e ∷ slice_index_or ps q [])

abbrev parts_of : ℕ → List Event → List (List Event)
parts_of n [] = replicate n []
parts_of n (e ∷ es) = put_front e.peer e (parts_of n es)

parts_count : (n : ℕ) (es : List Event) → length (parts_of n es) ≡ n
parts_count n [] = length-replicate n []
parts_count n (e ∷ es) = length-set (parts_of n es) e.peer (e ∷ slice_index_or (parts_of n es) e.peer []) ∙ parts_count n es

abbrev Inside : ℕ → List Event → Type 0
Inside n es = Each (λ e. e.peer < n) es

get_set : (ps : List (List Event)) (q : ℕ) (y : List Event) → q < length ps → slice_get (slice_set ps q y) q ≡ Some y
get_set ps q y l =
    let l' : q < length (slice_set ps q y) = omega (arith, l, length-set ps q y) in
    slice_get-get_or (slice_set ps q y) q [] l' ∙ ap Some (get_or-set_same ps q y [] l)

recorded_parts : (n : ℕ) (es : List Event) → Inside n es → recorded (parts_of n es) (map peer_of es) ≡ es
recorded_parts n [] h = refl
recorded_parts n (e ∷ es) h =
    let ps = parts_of n es in
    let x = slice_index_or ps e.peer [] in
    let l : e.peer < length ps = omega (arith, h.0, parts_count n es) in
    ap (λ o. with_first o (λ rest. recorded (slice_set (put_front e.peer e ps) e.peer rest) (map peer_of es))) (get_set ps e.peer (e ∷ x) l)
    ∙ ap (λ js. e ∷ recorded js (map peer_of es)) (set-set ps e.peer (e ∷ x) x ∙ set-get_or ps e.peer [])
    ∙ ap (λ xs. e ∷ xs) (recorded_parts n es h.1)

parts_sum : (n : ℕ) (es : List Event) → Inside n es → sum_by length (parts_of n es) ≡ length es
parts_sum n [] h = sum_by-replicate length n [] ∙ (let z : n * 0 ≡ 0 = omega arith in z)
parts_sum n (e ∷ es) h =
    let ps = parts_of n es in
    let l : e.peer < length ps = omega (arith, h.0, parts_count n es) in
    omega (arith, sum_by-set length ps e.peer (e ∷ slice_index_or ps e.peer []) [] l, parts_sum n es h.1)

-- ---- parts behind what was there

abbrev joined : List (List Event) → List (List Event) → List (List Event)
joined [] ps = []
joined (j ∷ js) [] = []
joined (j ∷ js) (p ∷ ps) = (j ++ p) ∷ joined js ps

joined_none : (js : List (List Event)) → joined js (replicate (length js) []) ≡ js
joined_none [] = refl
joined_none (j ∷ js) = ap (λ x. x ∷ joined js (replicate (length js) [])) (append-nil j) ∙ ap (λ xs. j ∷ xs) (joined_none js)

joined_empty : (ps : List (List Event)) → joined (replicate (length ps) []) ps ≡ ps
joined_empty [] = refl
joined_empty (p ∷ ps) = ap (λ xs. p ∷ xs) (joined_empty ps)

joined_front : (js ps : List (List Event)) (q : ℕ) (e : Event) → joined (slice_set js q (slice_index_or js q [] ++ e ∷ [])) ps ≡ joined js (put_front q e ps)
joined_front [] ps q e = refl
joined_front (j ∷ js) [] zero e = refl
joined_front (j ∷ js) [] (suc q) e = refl
joined_front (j ∷ js) (p ∷ ps) zero e = ap (λ x. x ∷ joined js ps) (append_assoc j (e ∷ []) p)
joined_front (j ∷ js) (p ∷ ps) (suc q) e = ap (λ xs. (j ++ p) ∷ xs) (joined_front js ps q e)

-- ---- the journals of a run

module _ (order : Order) (p : Problem) where
  run_inside : (n : ℕ) (es : List Event) (w v : World) → length w.locals ≡ n → Run order p w es v → Inside n es
  run_inside n [] w v count r = tt
  run_inside n (e ∷ es) w v count r =
      (let l : e.peer < n = omega (arith, r.1.in_range, count) in l, run_inside n es r.0 v (step_length order p w e r.0 r.1 ∙ count) r.2)

  step_journals : (w : World) (e : Event) (u : World) → WorldStep order p w e u
      → map journal_of u.locals ≡ slice_set (map journal_of w.locals) e.peer (slice_index_or (map journal_of w.locals) e.peer [] ++ e ∷ [])
  step_journals w e u h =
      ap (map journal_of) h.stepped ∙ map-set journal_of w.locals e.peer (after (at w e.peer) e h.found)
      ∙ ap (λ j. slice_set (map journal_of w.locals) e.peer (j ++ e ∷ [])) (sym (get_or-map journal_of w.locals e.peer nobody [] h.in_range))

  run_journals : (n : ℕ) (es : List Event) (w v : World) → length w.locals ≡ n → Run order p w es v → map journal_of v.locals ≡ joined (map journal_of w.locals) (parts_of n es)
  run_journals n [] w v count r =
      ap (λ (x : World). map journal_of x.locals) r ∙ sym (joined_none (map journal_of w.locals))
      ∙ ap (λ k. joined (map journal_of w.locals) (replicate k [])) (length-map w.locals journal_of ∙ count)
  run_journals n (e ∷ es) w v count r =
      run_journals n es r.0 v (step_length order p w e r.0 r.1 ∙ count) r.2 ∙ ap (λ js. joined js (parts_of n es)) (step_journals w e r.0 r.1)
      ∙ joined_front (map journal_of w.locals) (parts_of n es) e.peer e

start_journals : (p : Problem) (policy : Policy) (limits : Limits) (start : World) → IsStart p policy limits start → map journal_of start.locals ≡ replicate (length start.locals) []
start_journals p policy limits start starts =
    let count = length-map start.locals journal_of in
    ext_get_or [] (map journal_of start.locals) (replicate (length start.locals) []) (count ∙ sym (length-replicate (length start.locals) []))
    (λ i l.
    let l' : i < length start.locals = omega (arith, l, count) in
    get_or-map journal_of start.locals i nobody [] l' ∙ ap journal_of (starts.fresh i l').2 ∙ sym (get_or-replicate (length start.locals) i [] [] l'))

pub runs_are_journalled : RunsAreJournalled
runs_are_journalled order p policy limits start events w starts run =
    let n = length start.locals in
    let inside = run_inside order p n events start w refl run in
    let all : map journal_of w.locals ≡ parts_of n events =
    run_journals order p n events start w refl run ∙ ap (λ js. joined js (parts_of n events)) (start_journals p policy limits start starts)
    ∙ ap (λ k. joined (replicate k []) (parts_of n events)) (sym (parts_count n events)) ∙ joined_empty (parts_of n events)
    in
    record {
      events_are = ap (λ js. recorded js (map peer_of events)) all ∙ recorded_parts n events inside;
      count = length-map events peer_of ∙ sym (ap (sum_by length) all ∙ parts_sum n events inside);
    }
