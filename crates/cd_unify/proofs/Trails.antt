-- Values taken back along a trail.
use Rattle.std.proofs.Common.{◌≡◌, ℕ, ◌<◌, List, [], ◌∷◌, ◌++◌, length, take, drop, get_or, set, ap, refl, sym, ◌∙◌, arith, append_assoc, length-append, Option, None}
use Rattle.std.proofs.lemmas.List.{set-set, set-get_or, append-nil, take-append-le, drop-append-le}
use Rattle.std.proofs.Math.Seq.{drop-append_seam, take-append_seam}
use Rattle.cd_term.specs.declared.Term.{Term}
use Rattle.cd_unify.specs.Bindings.{unbound, IsTrail}

pub unbound-append : (xs ys : List ℕ) (vs : List (Option Term)) → unbound (xs ++ ys) vs ≡ unbound xs (unbound ys vs)
unbound-append [] ys vs = refl
unbound-append (x ∷ xs) ys vs = ap (λ ws. set ws x None) (unbound-append xs ys vs)

-- nothing was noted
pub trail_none : (vs : List (Option Term)) (before : List ℕ) → IsTrail vs before vs before
trail_none vs before = record { more = []; longer = sym (append-nil before); back = refl }

-- one trail after another
pub trail_more : (us vs ws : List (Option Term)) (s t u : List ℕ) → IsTrail us s vs t → IsTrail vs t ws u → IsTrail us s ws u
trail_more us vs ws s t u a b = record {
  more = a.more ++ b.more;
  longer = b.longer ∙ ap (λ xs. xs ++ b.more) a.longer ∙ append_assoc s a.more b.more;
  back = unbound-append a.more b.more ws ∙ ap (unbound a.more) b.back ∙ a.back;
}

-- one variable got a value
pub trail_one : (vs ws : List (Option Term)) (s t : List ℕ) (k : ℕ) (v : Option Term) → get_or vs k None ≡ None → ws ≡ set vs k v →
    t ≡ s ++ k ∷ [] → IsTrail vs s ws t
trail_one vs ws s t k v none is longer = record {
  more = k ∷ [];
  longer = longer;
  back = ap (λ xs. set xs k None) is ∙ set-set vs k v None ∙ ap (λ w. set vs k w) (sym none) ∙ set-get_or vs k None;
}

-- all that was noted since is taken back
pub trail_back : (us vs : List (Option Term)) (s t : List ℕ) (mark : ℕ) → mark ≡ length s → IsTrail us s vs t →
    (unbound (drop mark t) vs ≡ us) × (take mark t ≡ s)
trail_back us vs s t mark is noted = (
  ap (λ n. unbound (drop n t) vs) is ∙ ap (λ xs. unbound (drop (length s) xs) vs) noted.longer
      ∙ ap (λ ks. unbound ks vs) (drop-append_seam s noted.more) ∙ noted.back,
  ap (λ n. take n t) is ∙ ap (take (length s)) noted.longer ∙ take-append_seam s noted.more,
)

-- the last variable of a trail is taken back
pub last_back : (ws vs : List (Option Term)) (all front : List ℕ) (k mark : ℕ) → all ≡ front ++ k ∷ [] → mark < length all → ws ≡ set vs k None →
    unbound (drop mark all) vs ≡ unbound (drop mark front) ws
last_back ws vs all front k mark is lt put =
    ap (λ xs. unbound (drop mark xs) vs) is
    ∙ ap (λ xs. unbound xs vs) (drop-append-le mark front (k ∷ []) (omega (arith, ap length is, length-append front (k ∷ []))))
    ∙ unbound-append (drop mark front) (k ∷ []) vs ∙ ap (unbound (drop mark front)) (sym put)

pub last_kept : (all front : List ℕ) (k mark : ℕ) → all ≡ front ++ k ∷ [] → mark < length all → take mark front ≡ take mark all
last_kept all front k mark is lt =
    sym (ap (take mark) is ∙ take-append-le mark front (k ∷ []) (omega (arith, ap length is, length-append front (k ∷ []))))
