-- A subterm of a clause replaced.
use Rattle.std.proofs.Common.{◌≡◌, ℕ, zero, suc, ◌+◌, ◌-◌, ◌<◌, ◌≤◌, Bool, true, false, IsTrue, ◌↔◌, List, [], ◌∷◌, ◌++◌, length, map, sum_by, take, get_or, reverse, ap, subst, refl, sym, ◌∙◌, arith, Option, Some, None, Result, Err, slice_get, slice_set}
use Rattle.std.proofs.lemmas.List.{take_more, take_all, length-reverse, get_or-reverse}
use Rattle.std.proofs.lemmas.List.Sums.{sum_by_more_le}
use Rattle.std.proofs.lemmas.Option.{slice_get-get_or, same_Some, slice_get_within, get_or_from_slice_get}
use Rattle.cd_term.specs.declared.TermFault.{TermFault}
use Rattle.cd_term.specs.declared.Term.{Term}
use Rattle.cd_term.specs.Terms.{applied, greatest}
use Rattle.cd_term.proofs.Comparing.{applied_none, applied_nones}
use Rattle.cd_term.proofs.Replacing.{set_there}
use Rattle.cd_clause.specs.declared.Atom.{Atom}
use Rattle.cd_clause.specs.declared.Atom.TheVariants.{Truth, Pred, Equal}
use Rattle.cd_clause.specs.declared.Literal.{Literal}
use Rattle.cd_clause.specs.declared.Clause.{Clause}
use Rattle.cd_clause.specs.Clauses.{literal_size, literal_depth, atom_changed, IsAtomWithin, IsWithinBounds}
use Rattle.cd_clause.specs.Places.{signed, subterm_at, replaced_at, replaced_at_under, IsAtomMeasureOf}
use Rattle.cd_clause.proofs.PlaceLemmas.{at-is, at-somewhere}
use Rattle.cd_rewrite.specs.Rewriting.{AreRewritten, HasNoPlace}

-- the steps of a way, the last one first
pub path_more : (way path : List ℕ) (i x : ℕ) → i < length way → path ≡ take i (reverse way) → x ≡ get_or way (length way - 1 - i) 0 →
    path ++ x ∷ [] ≡ take (i + 1) (reverse way)
path_more way path i x lt so_far is =
    ap (λ p. p ++ x ∷ []) so_far ∙ ap (λ n. take i (reverse way) ++ n ∷ []) (is ∙ sym (get_or-reverse way i 0 lt))
    ∙ sym (take_more (reverse way) i 0 (omega (arith, lt, length-reverse way)))

pub path_all : (way path : List ℕ) (i : ℕ) → length way ≤ i → path ≡ take i (reverse way) → path ≡ reverse way
path_all way path i le so_far = so_far ∙ take_all i (reverse way) (omega (arith, le, length-reverse way))

-- an atom in which nothing but the subterm is changed
unchanged : (a : Atom) → atom_changed (applied []) a ≡ a
unchanged Truth = refl
unchanged (Pred p args) = ap (Pred p) (applied_nones args)
unchanged (Equal s t) = ap (λ x. Equal x (applied [] t)) (applied_none s) ∙ ap (Equal s) (applied_none t)

pub becomes : (none s : List Term) (path : List ℕ) (to : Term) (a : Atom) (u : Term) → none ≡ [] → subterm_at path a ≡ Some u →
    replaced_at_under none s path to a ≡ replaced_at path (applied s to) a
becomes none s path to a u empty there =
    ap (λ r. replaced_at_under r s path to a) empty ∙ at-is [] s path to a u there ∙ ap (replaced_at path (applied s to)) (unchanged a)

-- a literal that is read
pub read : (ls xs : List Literal) (place j : ℕ) (l : Literal) → xs ≡ ls → place ≡ j → j < length xs → l ≡ get_or xs place l → slice_get ls j ≡ Some l
read ls xs place j l same is lt at =
    ap (λ ys. slice_get ys j) (sym same) ∙ slice_get-get_or xs j l lt ∙ ap Some (ap (λ k. get_or xs k l) (sym is) ∙ sym at)

pub no_literal : (ls xs : List Literal) (j : ℕ) (path : List ℕ) → xs ≡ ls → length xs ≤ j → HasNoPlace ls j path
no_literal ls xs j path same past taker at = absurd (omega (arith, slice_get_within ls j taker at, past, ap length same))

pub no_subterm : (ls : List Literal) (j : ℕ) (path steps : List ℕ) (l : Literal) → slice_get ls j ≡ Some l → subterm_at steps l.atom ≡ None → steps ≡ path → HasNoPlace ls j path
no_subterm ls j path steps l here out same taker at =
    ap (λ (k : Literal). subterm_at path k.atom) (same_Some taker l (sym at ∙ here)) ∙ ap (λ p. subterm_at p l.atom) (sym same) ∙ out

-- a clause with an atom that is out of bounds is out of bounds
literal_deep : (ls : List Literal) (j : ℕ) (l : Literal) → slice_get ls j ≡ Some l → literal_depth l ≤ greatest (map literal_depth ls)
literal_deep [] j l at = absurd (cc)
literal_deep (k ∷ ls) zero l at = omega (arith, ap literal_depth (same_Some k l at))
literal_deep (k ∷ ls) (suc j) l at = omega (arith, literal_deep ls j l at)

literal_large : (ls : List Literal) (j : ℕ) (l : Literal) → slice_get ls j ≡ Some l → literal_size l ≤ sum_by literal_size ls
literal_large ls j l at = omega (arith, sum_by_more_le literal_size ls j l (slice_get_within ls j l at), ap literal_size (get_or_from_slice_get ls j l l at))

clause_outside : (c : Clause) (j : ℕ) (l : Literal) → slice_get c.literals j ≡ Some l → ¬ IsAtomWithin 65535 1000 l.atom → ¬ IsWithinBounds c
clause_outside c j l at out = λ within. out (omega (arith, within.0, literal_large c.literals j l at), omega (arith, within.1, literal_deep c.literals j l at))

abbrev pub IsRefused : List Literal → ℕ → List ℕ → Term → Type 0
IsRefused ls j path new = (d : Clause) × AreRewritten ls j path new d.literals × (¬ IsWithinBounds d)

refused_by : (ls : List Literal) (j : ℕ) (path : List ℕ) (new : Term) (l : Literal) (o : Option Atom) → slice_get ls j ≡ Some l → replaced_at path new l.atom ≡ o →
    IsAtomMeasureOf 65535 1000 o None → (o ≡ None → ⊥) → IsRefused ls j path new
refused_by ls j path new l None here is out some = absurd (some refl)
refused_by ls j path new l (Some b) here is out some =
    let m : Literal = signed l.positive b in
    let d : Clause = record { literals = slice_set ls j m } in (
      d,
      record { taker = l; changed = b; literal = here; becomes = is; rest = refl },
      clause_outside d j m (set_there ls j m (slice_get_within ls j l here)) out,
    )

pub refused : (ls : List Literal) (j : ℕ) (path steps : List ℕ) (to : Term) (none s terms : List Term) (l : Literal) (u : Term) → slice_get ls j ≡ Some l → none ≡ [] →
    steps ≡ path → terms ≡ s → subterm_at steps l.atom ≡ Some u → IsAtomMeasureOf 65535 1000 (replaced_at_under none terms steps to l.atom) None →
    IsRefused ls j path (applied s to)
refused ls j path steps to none s terms l u here empty same alike there out =
    let is : replaced_at_under none terms steps to l.atom ≡ replaced_at path (applied s to) l.atom
    = becomes none terms steps to l.atom u empty there ∙ ap (λ p. replaced_at p (applied terms to) l.atom) same ∙ ap (λ ts. replaced_at path (applied ts to) l.atom) alike in
    refused_by ls j path (applied s to) l (replaced_at path (applied s to) l.atom) here refl (subst (λ o. IsAtomMeasureOf 65535 1000 o None) is out)
    (λ e. (let nowhere : None ≡ Some u = sym (at-somewhere none terms steps to l.atom (is ∙ e)) ∙ there in cc))

pub rewritten : (ls rs copies : List Literal) (j place : ℕ) (path steps : List ℕ) (to : Term) (none s terms : List Term) (l : Literal) (u : Term) (b : Atom) → slice_get ls j ≡ Some l → none ≡ [] →
    steps ≡ path → terms ≡ s → subterm_at steps l.atom ≡ Some u → Some b ≡ replaced_at_under none terms steps to l.atom → copies ≡ ls →
    rs ≡ slice_set copies place (signed l.positive b) → place ≡ j → AreRewritten ls j path (applied s to) rs
rewritten ls rs copies j place path steps to none s terms l u b here empty same alike there some copied is at = record {
  taker = l;
  changed = b;
  literal = here;
  becomes = sym (some ∙ becomes none terms steps to l.atom u empty there ∙ ap (λ p. replaced_at p (applied terms to) l.atom) same
      ∙ ap (λ ts. replaced_at path (applied ts to) l.atom) alike);
  rest = is ∙ ap (λ ks. slice_set ks place (signed l.positive b)) copied ∙ ap (λ k. slice_set ls k (signed l.positive b)) at;
}

pub nowhere : (none terms : List Term) (steps : List ℕ) (to : Term) (a : Atom) (u : Term) → subterm_at steps a ≡ Some u → None ≡ replaced_at_under none terms steps to a → ⊥
nowhere none terms steps to a u there out = let both : None ≡ Some u = sym (at-somewhere none terms steps to a (sym out)) ∙ there in (cc)

-- one fault of two results
pub same_fault : (A B : Type 0) (fault x : TermFault) → ◌≡◌ {A = Result A TermFault} (Err fault) (Err x) → ◌≡◌ {A = Result B TermFault} (Err fault) (Err x)
same_fault A B fault x e = let same : fault ≡ x = cc in ap Err same

pub not_within : (d : Clause) (r : Bool) → (IsTrue r ↔ IsWithinBounds d) → r ≡ false → ¬ IsWithinBounds d
not_within d r test out = λ within. let was : r ≡ true = test.1 within in let both : true ≡ false = sym was ∙ out in absurd (cc)
