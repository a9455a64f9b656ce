-- The places, sides and paths of a step that is right from clauses within bounds are those that a printed rule may have.
use Rattle.std.proofs.Common.{◌≡◌, ℕ, zero, suc, ◌+◌, ◌<◌, ◌≤◌, List, [], ◌∷◌, sum_by, refl, ap, sym, ◌∙◌, arith}
use Rattle.std.specs.Prelude.{slice_get, option_map, Some}
use Rattle.std.specs.List.{AllByRecursion as Each}
use Rattle.std.proofs.lemmas.List.Sums.{sum_by-cons}
use Rattle.std.proofs.lemmas.Option.{slice_get_within}
use Rattle.cd_list.proofs.Lists.{all_weaker}
use Rattle.cd_term.specs.declared.Term.{Term}
use Rattle.cd_term.specs.Terms.{size_of, subterm}
use Rattle.cd_term.proofs.Equations.{size_of-App}
use Rattle.cd_term.proofs.PathLaws.{steps_to}
use Rattle.cd_clause.specs.declared.Atom.{Atom}
use Rattle.cd_clause.specs.declared.Clause.{Clause}
use Rattle.cd_clause.specs.declared.Literal.{Literal}
use Rattle.cd_clause.specs.Clauses.{terms_of, literal_size, literal_changed, variable_bound_of, IsWithinBounds}
use Rattle.cd_clause.specs.Places.{HasSides, subterm_at}
use Rattle.cd_clause.proofs.PlaceLemmas.{stands_in}
use Rattle.cd_acts.proofs.Lists.{get_map}
use Rattle.cd_rewrite.proofs.FirstPlaces.{count_literals}
use Rattle.cd_rewrite.proofs.Turns.{count_size}
use Rattle.cd_steps.specs.Drafts.{raised}
use Rattle.cd_steps.specs.Rules.{apart, IsParamodulation, Inference}
use Rattle.cd_steps.proofs.Raising.{place_raised, was_there}
use Rattle.cd_text.specs.Formed.{IsPathFormed}

-- ---- sizes of parts

part_size : {A : Type 0} (f : A → ℕ) (xs : List A) (k : ℕ) (x : A) → slice_get xs k ≡ Some x → f x ≤ sum_by f xs
part_size f [] k x there = absurd cc
part_size f (y ∷ xs) zero x there = let same : y ≡ x = cc in omega (arith, ap f same, sum_by-cons f y xs)
part_size f (y ∷ xs) (suc k) x there = omega (arith, part_size f xs k x there, sum_by-cons f y xs)

argument_place : (ts : List Term) (k : ℕ) (t : Term) → slice_get ts k ≡ Some t → k < sum_by size_of ts + 1
argument_place ts k t there = let within = slice_get_within ts k t there in omega (arith, within, count_size ts)

-- ---- places of literals

pub literal_place : (c : Clause) (i : ℕ) (l : Literal) → IsWithinBounds c → slice_get c.literals i ≡ Some l → i < 65536
literal_place c i l within there = omega (arith, slice_get_within c.literals i l there, count_literals c.literals, within.0)

literal_small : (c : Clause) (i : ℕ) (l : Literal) → IsWithinBounds c → slice_get c.literals i ≡ Some l → literal_size l ≤ 65535
literal_small c i l within there = omega (arith, part_size literal_size c.literals i l there, within.0)

-- literals of a second premise
second_literal : (a b : Clause) (j : ℕ) (l : Literal) → slice_get (apart a b).literals j ≡ Some l → (m : Literal) × (slice_get b.literals j ≡ Some m) × (literal_changed (raised (variable_bound_of a)) m ≡ l)
second_literal a b j l there = get_map (literal_changed (raised (variable_bound_of a))) b.literals j l there

pub second_place : (a b : Clause) (j : ℕ) (l : Literal) → IsWithinBounds b → slice_get (apart a b).literals j ≡ Some l → j < 65536
second_place a b j l within there = let m = second_literal a b j l there in literal_place b j m.0 within m.1

-- ---- sides

pub side_is : (s : ℕ) (a : Atom) (side other : Term) → HasSides s a side other → s < 2
side_is zero a side other h = omega arith
side_is (suc zero) a side other h = omega arith
side_is (suc (suc s)) a side other h = absurd h

-- ---- paths

below_size : (path : List ℕ) (t u : Term) → subterm path t ≡ Some u → Each (λ k. k < size_of t) path
below_size [] t u there = tt
below_size (k ∷ path) t u there =
    let s = steps_to k path u t there in
    let size : size_of t ≡ 1 + sum_by size_of s.args = ap size_of s.is ∙ size_of-App s.symbol s.args in
    let inner = part_size size_of s.args k s.arg s.here in (
      omega (arith, size, argument_place s.args k s.arg s.here),
      all_weaker (λ j. j < size_of s.arg) (λ j. j < size_of t) path (λ j h. omega (arith, h, size, inner)) (below_size path s.arg u s.rest),
    )

path_at : (path : List ℕ) (l : Literal) (u : Term) → literal_size l ≤ 65535 → subterm_at path l.atom ≡ Some u → IsPathFormed path
path_at [] l u small there = absurd cc
path_at (k ∷ path) l u small there =
    let s = stands_in k path l.atom u there in
    let size : literal_size l ≡ 1 + sum_by size_of (terms_of l.atom) = refl in
    let inner = part_size size_of (terms_of l.atom) k s.term s.here in (
      omega arith,
      (
        omega (arith, size, small, argument_place (terms_of l.atom) k s.term s.here),
        all_weaker (λ j. j < size_of s.term) (λ j. j < 65536) path (λ j h. omega (arith, h, size, small, inner)) (below_size path s.term u s.rest),
      ),
    )

-- ---- paramodulation

pub record IsPlaced (i s j : ℕ) (path : List ℕ) : Type 0 where
  pub giver : i < 65536
  pub side : s < 2
  pub taker : j < 65536
  pub path_is : IsPathFormed path

pub paramodulation_placed : (a b : Clause) (i s j : ℕ) (path : List ℕ) (x : Inference) → IsWithinBounds a → IsWithinBounds b → IsParamodulation a i s b j path x → IsPlaced i s j path
paramodulation_placed a b i s j path x within_a within_b r =
    let m = second_literal a b j r.taker r.literal in
    let up = variable_bound_of a in
    let raised_there : option_map (raised up) (subterm_at path m.0.atom) ≡ Some r.inner =
    sym (place_raised up path m.0.atom) ∙ ap (λ (l : Literal). subterm_at path l.atom) m.2 ∙ r.there in
    let t = was_there up (subterm_at path m.0.atom) r.inner raised_there in
    record {
      giver = literal_place a i _ within_a r.giver;
      side = side_is s r.equation r.side r.other r.sides;
      taker = second_place a b j r.taker within_b r.literal;
      path_is = path_at path m.0 t.0 (literal_small b j m.0 within_b m.1) t.1;
    }
