-- The paths of terms, one argument after another.
use Rattle.std.proofs.Common.{◌≡◌, ℕ, zero, suc, ◌+◌, ◌<◌, ◌≤◌, List, [], ◌∷◌, ◌++◌, length, map, take, drop, sum_by, get_or, ap, ap₂, ◌∙◌, sym, refl, arith, append-nil, append_assoc}
use Rattle.std.proofs.lemmas.List.{take_more, take-append-drop, map-append, length-map, length-take-le}
use Rattle.std.proofs.lemmas.List.Sums.{sum_by-cons}
use Rattle.cd_term.specs.declared.Term.{Term}
use Rattle.cd_term.specs.declared.Term.TheVariants.{Var, App}
use Rattle.cd_term.specs.Terms.{size_of}
use Rattle.cd_term.proofs.TermInduction.{ind}
use Rattle.cd_term.proofs.Equations.{fold-Var, fold-App, size_of-Var, size_of-App}
use Rattle.cd_infer.specs.Paths.{below, paths_step, term_paths, walked, paths_from}

pub term_paths-Var : (n : ℕ) → term_paths (Var n) ≡ []
term_paths-Var = fold-Var (List (List ℕ)) paths_step

pub term_paths-App : (f : ℕ) (ts : List Term) → term_paths (App f ts) ≡ [] ∷ below 0 (map term_paths ts)
term_paths-App = fold-App (List (List ℕ)) paths_step

-- the paths of one term more
pub below_more : (k : ℕ) (pss : List (List (List ℕ))) (ps : List (List ℕ)) → below k (pss ++ ps ∷ []) ≡ below k pss ++ map (λ p. (k + length pss) ∷ p) ps
below_more k [] ps = append-nil (map (λ p. k ∷ p) ps) ∙ ap (λ (m : ℕ). map (λ p. m ∷ p) ps) (omega arith)
below_more k (qs ∷ pss) ps =
    let last : suc k + length pss ≡ k + length (qs ∷ pss) = omega arith in
    ap (λ xs. map (λ p. k ∷ p) qs ++ xs) (below_more (suc k) pss ps ∙ ap (λ (m : ℕ). below (suc k) pss ++ map (λ p. m ∷ p) ps) last)
    ∙ sym (append_assoc (map (λ p. k ∷ p) qs) (below (suc k) pss) (map (λ p. (k + length (qs ∷ pss)) ∷ p) ps))

walked_behind : {K : Type 0} (g : List ℕ → K) (path : List ℕ) (k : ℕ) (ps : List (List ℕ)) → walked g path (map (λ p. k ∷ p) ps) ≡ walked g (path ++ k ∷ []) ps
walked_behind g path k [] = refl
walked_behind {K} g path k (p ∷ ps) = ap₂ (λ (x : K) (xs : List K). x ∷ xs) (ap g (sym (append_assoc path (k ∷ []) p))) (walked_behind g path k ps)

-- the places of the first i terms, and of the next
pub walked_more : {K : Type 0} (g : List ℕ → K) (path : List ℕ) (k : ℕ) (ts : List Term) (i : ℕ) (t : Term) → i < length ts → t ≡ get_or ts i t
    → walked g path (below k (map term_paths (take (i + 1) ts)))
    ≡ walked g path (below k (map term_paths (take i ts))) ++ walked g (path ++ (k + i) ∷ []) (term_paths t)
walked_more {K} g path k ts i t lt at =
    let so_far = map term_paths (take i ts) in
    let many : length so_far ≡ i = length-map (take i ts) term_paths ∙ length-take-le i ts (omega arith) in
    ap (λ us. walked g path (below k (map term_paths us))) (take_more ts i t lt ∙ ap (λ (u : Term). take i ts ++ u ∷ []) (sym at))
    ∙ ap (λ pss. walked g path (below k pss)) (map-append term_paths (take i ts) (t ∷ []))
    ∙ ap (walked g path) (below_more k so_far (term_paths t) ∙ ap (λ (m : ℕ). below k so_far ++ map (λ p. (k + m) ∷ p) (term_paths t)) many)
    ∙ map-append (λ p. g (path ++ p)) (below k so_far) (map (λ p. (k + i) ∷ p) (term_paths t))
    ∙ ap (λ (xs : List K). walked g path (below k so_far) ++ xs) (walked_behind g path (k + i) (term_paths t))

-- a symbol, and then its arguments
pub walked_App : {K : Type 0} (g : List ℕ → K) (path : List ℕ) (f : ℕ) (ts : List Term)
    → walked g path (term_paths (App f ts)) ≡ (g path ∷ []) ++ walked g path (below 0 (map term_paths ts))
walked_App {K} g path f ts =
    ap (walked g path) (term_paths-App f ts)
    ∙ ap (λ (x : K). x ∷ walked g path (below 0 (map term_paths ts))) (ap g (append-nil path))

-- one term more: a variable, or a symbol
pub walked_variable : {K : Type 0} (g : List ℕ → K) (path : List ℕ) (k : ℕ) (ts : List Term) (i : ℕ) (t : Term) (n : ℕ) → i < length ts → t ≡ get_or ts i t → t ≡ Var n
    → walked g path (paths_from k (take (i + 1) ts)) ≡ walked g path (paths_from k (take i ts))
walked_variable {K} g path k ts i t n lt at is =
    walked_more g path k ts i t lt at
    ∙ ap (λ (xs : List K). walked g path (paths_from k (take i ts)) ++ xs) (ap (λ (u : Term). walked g (path ++ (k + i) ∷ []) (term_paths u)) is ∙ ap (walked g (path ++ (k + i) ∷ [])) (term_paths-Var n))
    ∙ append-nil (walked g path (paths_from k (take i ts)))

pub walked_symbol : {K : Type 0} (g : List ℕ → K) (path : List ℕ) (k : ℕ) (ts : List Term) (i : ℕ) (t : Term) (f : ℕ) (us : List Term) → i < length ts → t ≡ get_or ts i t → t ≡ App f us
    → walked g path (paths_from k (take (i + 1) ts))
    ≡ (walked g path (paths_from k (take i ts)) ++ g (path ++ (k + i) ∷ []) ∷ []) ++ walked g (path ++ (k + i) ∷ []) (paths_from 0 us)
walked_symbol {K} g path k ts i t f us lt at is =
    let p = path ++ (k + i) ∷ [] in
    walked_more g path k ts i t lt at
    ∙ ap (λ (xs : List K). walked g path (paths_from k (take i ts)) ++ xs) (ap (λ (u : Term). walked g p (term_paths u)) is ∙ walked_App g p f us)
    ∙ sym (append_assoc (walked g path (paths_from k (take i ts))) (g p ∷ []) (walked g p (paths_from 0 us)))

-- the first terms, and the others
below_append : (k : ℕ) (pss qss : List (List (List ℕ))) → below k (pss ++ qss) ≡ below k pss ++ below (k + length pss) qss
below_append k [] qss = ap (λ (m : ℕ). below m qss) (omega arith)
below_append k (ps ∷ pss) qss =
    let last : suc k + length pss ≡ k + length (ps ∷ pss) = omega arith in
    ap (λ xs. map (λ p. k ∷ p) ps ++ xs) (below_append (suc k) pss qss ∙ ap (λ (m : ℕ). below (suc k) pss ++ below m qss) last)
    ∙ sym (append_assoc (map (λ p. k ∷ p) ps) (below (suc k) pss) (below (k + length (ps ∷ pss)) qss))

pub walked_front : {K : Type 0} (g : List ℕ → K) (path : List ℕ) (k : ℕ) (ts : List Term) (n : ℕ)
    → walked g path (paths_from k ts)
    ≡ walked g path (paths_from k (take n ts)) ++ walked g path (below (k + length (map term_paths (take n ts))) (map term_paths (drop n ts)))
walked_front g path k ts n =
    ap (λ us. walked g path (paths_from k us)) (sym (take-append-drop n ts))
    ∙ ap (λ pss. walked g path (below k pss)) (map-append term_paths (take n ts) (drop n ts))
    ∙ ap (walked g path) (below_append k (map term_paths (take n ts)) (map term_paths (drop n ts)))
    ∙ map-append (λ p. g (path ++ p)) (below k (map term_paths (take n ts))) (below (k + length (map term_paths (take n ts))) (map term_paths (drop n ts)))

-- ---- sizes

pub size_at : (ts : List Term) (i : ℕ) (t : Term) → i < length ts → t ≡ get_or ts i t → size_of t ≤ sum_by size_of ts
size_at [] i t lt at = absurd (omega arith)
size_at (u ∷ ts) zero t lt at = omega (arith, ap size_of at, sum_by-cons size_of u ts)
size_at (u ∷ ts) (suc i) t lt at = omega (arith, size_at ts i t (omega arith) at, sum_by-cons size_of u ts)

pub arguments_smaller : (ts : List Term) (i : ℕ) (t : Term) (f : ℕ) (us vs : List Term) → i < length ts → t ≡ get_or ts i t → t ≡ App f us → vs ≡ us → sum_by size_of vs + 1 ≤ sum_by size_of ts
arguments_smaller ts i t f us vs lt at is same = omega (arith, size_at ts i t lt at, ap size_of is, size_of-App f us, ap (sum_by size_of) same)

has_size : (t : Term) → 1 ≤ size_of t
has_size = ind (λ t. 1 ≤ size_of t) (λ n. omega (arith, size_of-Var n)) (λ f ts e. omega (arith, size_of-App f ts))

pub many_of : (ts : List Term) → length ts ≤ sum_by size_of ts
many_of [] = omega arith
many_of (t ∷ ts) = omega (arith, many_of ts, sum_by-cons size_of t ts, has_size t)
