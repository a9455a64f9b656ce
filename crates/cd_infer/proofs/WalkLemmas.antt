-- One symbol on a walk: its own place, and those of its arguments.
use Rattle.std.proofs.Common.{◌≡◌, ℕ, ◌+◌, ◌<◌, List, [], ◌∷◌, ◌++◌, map, take, drop, length, get_or, ap, ap₂, ◌∙◌, sym, subst}
use Rattle.std.proofs.lemmas.List.{take_at}
use Rattle.cd_term.specs.declared.Term.{Term}
use Rattle.cd_term.specs.declared.Term.TheVariants.{App}
use Rattle.cd_list.specs.Lists.{Among}
use Rattle.cd_infer.specs.Listed.{Adds, Overflows}
use Rattle.cd_infer.specs.Paths.{below, term_paths, walked, paths_from}
use Rattle.cd_infer.proofs.Listing.{adds_append, adds_to, among_left, among_right}
use Rattle.cd_infer.proofs.PathLemmas.{walked_symbol, walked_front}

module _ {K X : Type 0} (Gives : K → X → Type 0) (Can : K → Type 0) (IsFine : X → Type 0) (g : List ℕ → K) where
  -- what the place and the arguments add
  pub adds_symbol : (path steps behind : List ℕ) (k : ℕ) (ts : List Term) (i : ℕ) (t : Term) (f : ℕ) (us vs : List Term) (a b c d : List X) → i < length ts → t ≡ get_or ts i t → t ≡ App f us
      → steps ≡ path ++ (k + i) ∷ [] → behind ≡ path ++ (k + i) ∷ [] → vs ≡ us
      → Adds Gives Can IsFine (walked g path (paths_from k (take i ts))) a b → Adds Gives Can IsFine (g steps ∷ []) b c → Adds Gives Can IsFine (walked g behind (paths_from 0 vs)) c d
      → Adds Gives Can IsFine (walked g path (paths_from k (take (i + 1) ts))) a d
  adds_symbol path steps behind k ts i t f us vs a b c d lt at is here there same p q r =
      let n = path ++ (k + i) ∷ [] in
      let q' = adds_to Gives Can IsFine (g steps ∷ []) (g n ∷ []) b c (ap (λ (x : List ℕ). g x ∷ []) here) q in
      let r' = adds_to Gives Can IsFine (walked g behind (paths_from 0 vs)) (walked g n (paths_from 0 us)) c d (ap₂ (λ (x : List ℕ) (ws : List Term). walked g x (paths_from 0 ws)) there same) r in
      adds_to Gives Can IsFine _ _ a d (sym (walked_symbol g path k ts i t f us lt at is))
      (adds_append Gives Can IsFine (walked g path (paths_from k (take i ts)) ++ g n ∷ []) (walked g n (paths_from 0 us)) a c d
      (adds_append Gives Can IsFine (walked g path (paths_from k (take i ts))) (g n ∷ []) a b c p q') r')

  -- what overflows there, overflows on the whole walk
  overflow_front : (path : List ℕ) (k : ℕ) (ts : List Term) (n : ℕ) → Overflows Gives IsFine (walked g path (paths_from k (take n ts))) → Overflows Gives IsFine (walked g path (paths_from k ts))
  overflow_front path k ts n some =
      let P : K → Type 0 = λ z. (x : X) × Gives z x × (IsFine x → ⊥) in
      subst (λ (zs : List K). Among P zs) (sym (walked_front g path k ts n))
      (among_left Gives Can IsFine P (walked g path (paths_from k (take n ts))) (walked g path (below (k + length (map term_paths (take n ts))) (map term_paths (drop n ts)))) some)

  pub overflow_here : (path steps : List ℕ) (k : ℕ) (ts : List Term) (i : ℕ) (t : Term) (f : ℕ) (us : List Term) → i < length ts → t ≡ get_or ts i t → t ≡ App f us → steps ≡ path ++ (k + i) ∷ []
      → Overflows Gives IsFine (g steps ∷ []) → Overflows Gives IsFine (walked g path (paths_from k ts))
  overflow_here path steps k ts i t f us lt at is here some =
      let P : K → Type 0 = λ z. (x : X) × Gives z x × (IsFine x → ⊥) in
      let n = path ++ (k + i) ∷ [] in
      let some' = subst (λ (x : List ℕ). Among P (g x ∷ [])) here some in
      overflow_front path k ts (i + 1) (subst (λ (zs : List K). Among P zs) (sym (walked_symbol g path k ts i t f us lt at is))
      (among_left Gives Can IsFine P (walked g path (paths_from k (take i ts)) ++ g n ∷ []) (walked g n (paths_from 0 us))
      (among_right Gives Can IsFine P (walked g path (paths_from k (take i ts))) (g n ∷ []) some')))

  pub overflow_below : (path behind : List ℕ) (k : ℕ) (ts : List Term) (i : ℕ) (t : Term) (f : ℕ) (us vs : List Term) → i < length ts → t ≡ get_or ts i t → t ≡ App f us → behind ≡ path ++ (k + i) ∷ [] → vs ≡ us
      → Overflows Gives IsFine (walked g behind (paths_from 0 vs)) → Overflows Gives IsFine (walked g path (paths_from k ts))
  overflow_below path behind k ts i t f us vs lt at is there same some =
      let P : K → Type 0 = λ z. (x : X) × Gives z x × (IsFine x → ⊥) in
      let n = path ++ (k + i) ∷ [] in
      let some' = subst (λ (zs : List K). Among P zs) (ap₂ (λ (x : List ℕ) (ws : List Term). walked g x (paths_from 0 ws)) there same) some in
      overflow_front path k ts (i + 1) (subst (λ (zs : List K). Among P zs) (sym (walked_symbol g path k ts i t f us lt at is))
      (among_right Gives Can IsFine P (walked g path (paths_from k (take i ts)) ++ g n ∷ []) (walked g n (paths_from 0 us)) some'))

-- the path as it was
pub cut_back : (path pushed now cut : List ℕ) (x n : ℕ) → pushed ≡ path ++ x ∷ [] → now ≡ pushed → n ≡ length path → cut ≡ take n now → cut ≡ path
cut_back path pushed now cut x n is same many at =
    at ∙ ap (take n) (same ∙ is) ∙ take_at path (x ∷ []) n (sym many)
