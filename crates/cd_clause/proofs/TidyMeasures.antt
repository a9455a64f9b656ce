-- The sizes of the literals that are kept, one after another.
use Rattle.std.proofs.Common.{◌≡◌, ℕ, ◌+◌, ◌-◌, ◌<◌, ◌≤◌, inl, inr, Option, None, Some, List, [], ◌∷◌, ◌++◌, length, get_or, sum_by, take, drop, ap, subst, refl, sym, ◌∙◌, arith, append_assoc}
use Rattle.std.proofs.lemmas.List.{drop_all, append-nil}
use Rattle.std.proofs.lemmas.List.Sums.{sum_by-cons}
use Rattle.cd_term.specs.Terms.{applied}
use Rattle.cd_clause.specs.declared.Literal.{Literal}
use Rattle.cd_clause.specs.declared.Clause.{Clause}
use Rattle.cd_clause.specs.Clauses.{literal_size, atom_changed, literals_changed, IsSuperfluous, AreKept, IsTidied, IsAtomWithin, IsAtomMeasure, AreLiteralsWithin, AreLiteralsMeasured}
use Rattle.cd_clause.proofs.KeptLemmas.{next_list, next_earlier}
use Rattle.cd_clause.proofs.LimitLemmas.{literals-nothing}
use Rattle.cd_clause.proofs.JoinLemmas.{second_outside, both_measured}
use Rattle.cd_clause.proofs.TidyForms.{measured_renumbered}

-- what is kept of the first i literals, and its size
pub record Begins (ls : List Literal) (i total : ℕ) : Type 0 where
  pub front : List Literal
  pub each : (kept : List Literal) → AreKept [] ls kept → (rest : List Literal) × AreKept (take i ls) (drop i ls) rest × (kept ≡ front ++ rest)
  pub measured : AreLiteralsMeasured 65535 1000 front (Some total)

pub begins_none : (ls : List Literal) → Begins ls 0 0
begins_none ls = record { front = []; each = λ kept k. (kept, k, refl); measured = (refl, (omega arith, omega arith)) }

module _ (ls us : List Literal) (i total : ℕ) (l : Literal) (lt : i < length ls) (at : l ≡ get_or ls i l) (is : us ≡ take i ls) where
  earlier : (rest : List Literal) → AreKept (take i ls ++ l ∷ []) (drop (i + 1) ls) rest → AreKept (take (i + 1) ls) (drop (i + 1) ls) rest
  earlier rest k = subst (λ ms. AreKept ms (drop (i + 1) ls) rest) (sym (next_earlier ls i l lt at)) k

  skipped : IsSuperfluous us l → (rest : List Literal) → AreKept (take i ls) (l ∷ drop (i + 1) ls) rest → AreKept (take (i + 1) ls) (drop (i + 1) ls) rest
  skipped out rest (inl k) = earlier rest k.1
  skipped out rest (inr k) = absurd (k.0 (subst (λ ms. IsSuperfluous ms l) is out))

  pub begins_skip : IsSuperfluous us l → Begins ls i total → Begins ls (i + 1) total
  begins_skip out b = record {
    front = b.front;
    each = λ kept k. (let r = b.each kept k in
        (r.0, skipped out r.0 (subst (λ ms. AreKept (take i ls) ms r.0) (next_list ls i l lt at) r.1), r.2));
    measured = b.measured;
  }

  taken : ¬ IsSuperfluous us l → (rest : List Literal) → AreKept (take i ls) (l ∷ drop (i + 1) ls) rest → (others : List Literal) × AreKept (take (i + 1) ls) (drop (i + 1) ls) others × (rest ≡ l ∷ others)
  taken new rest (inl k) = absurd (new (subst (λ ms. IsSuperfluous ms l) (sym is) k.0))
  taken new rest (inr k) = (k.1.0, earlier k.1.0 k.1.2, k.1.1)

  -- what is kept begins with the front and this literal
  goes_on : ¬ IsSuperfluous us l → (b : Begins ls i total) (kept : List Literal) → AreKept [] ls kept →
      (others : List Literal) × AreKept (take (i + 1) ls) (drop (i + 1) ls) others × (kept ≡ b.front ++ l ∷ others)
  goes_on new b kept k =
      (let r = b.each kept k in
      let t = taken new r.0 (subst (λ ms. AreKept (take i ls) ms r.0) (next_list ls i l lt at) r.1) in
      (t.0, t.1, r.2 ∙ ap (λ ms. b.front ++ ms) t.2))

  plain : (s : List _) → s ≡ [] → (symbols : ℕ) (answer : Option ℕ) → IsAtomMeasure symbols 1000 (atom_changed (applied s) l.atom) answer → AreLiteralsMeasured symbols 1000 (l ∷ []) answer
  plain s none symbols answer m =
      subst (λ (ks : List Literal). AreLiteralsMeasured symbols 1000 ks answer) (literals-nothing (l ∷ []))
      (one answer (subst (λ u. IsAtomMeasure symbols 1000 (atom_changed (applied u) l.atom) answer) none m))
    where
      one_size : (k : Literal) → sum_by literal_size (k ∷ []) ≡ literal_size k
      one_size k = omega (arith, sum_by-cons literal_size k [])

      one : (o : Option ℕ) → IsAtomMeasure symbols 1000 (atom_changed (applied []) l.atom) o → AreLiteralsMeasured symbols 1000 (literals_changed (applied []) (l ∷ [])) o
      one None m = λ within. m (omega (arith, within.0, one_size (record { positive = l.positive; atom = atom_changed (applied []) l.atom })), omega (arith, within.1))
      one (Some n) m = (
        omega (arith, m.0, one_size (record { positive = l.positive; atom = atom_changed (applied []) l.atom })),
        (omega (arith, m.1.0, one_size (record { positive = l.positive; atom = atom_changed (applied []) l.atom })), omega (arith, m.1.1)),
      )

  pub begins_more : (more room : ℕ) (s : List _) → s ≡ [] → room ≡ 65535 - total → ¬ IsSuperfluous us l → IsAtomMeasure room 1000 (atom_changed (applied s) l.atom) (Some more) → Begins ls i total → Begins ls (i + 1) (total + more)
  begins_more more room s none left new m b = record {
    front = b.front ++ l ∷ [];
    each = λ kept k. (let g = goes_on new b kept k in (g.0, g.1, g.2 ∙ sym (append_assoc b.front (l ∷ []) g.0)));
    measured = both_measured 65535 1000 total more b.front (l ∷ []) (b.front ++ l ∷ []) b.measured
        (subst (λ n. AreLiteralsMeasured n 1000 (l ∷ []) (Some more)) left (plain s none room (Some more) m)) refl;
  }

  -- a literal that doesn't fit
  longer_outside : (room : ℕ) (others : List Literal) → ¬ AreLiteralsWithin room 1000 (l ∷ []) → ¬ AreLiteralsWithin room 1000 (l ∷ others)
  longer_outside room others out within = out (omega (arith, sum_by-cons literal_size l others, sum_by-cons literal_size l [], within.0), omega (arith, within.1))

  pub begins_outside : (room : ℕ) (s : List _) → s ≡ [] → room ≡ 65535 - total → ¬ IsSuperfluous us l → ¬ IsAtomWithin room 1000 (atom_changed (applied s) l.atom) → Begins ls i total →
      (kept : List Literal) → AreKept [] ls kept → AreLiteralsMeasured 65535 1000 kept None
  begins_outside room s none left new m b kept k =
      (let g = goes_on new b kept k in
      second_outside 65535 1000 total b.front (l ∷ g.0) kept b.measured
      (subst (λ n. ¬ AreLiteralsWithin n 1000 (l ∷ g.0)) left (longer_outside room g.0 (plain s none room None m))) g.2)

pub begins_all : (ls : List Literal) (i total : ℕ) → length ls ≤ i → Begins ls i total → (kept : List Literal) → AreKept [] ls kept → AreLiteralsMeasured 65535 1000 kept (Some total)
begins_all ls i total le b kept k =
    let r = b.each kept k in
    let nothing : r.0 ≡ [] = subst (λ ms. AreKept (take i ls) ms r.0) (drop_all i ls le) r.1 in
    subst (λ ms. AreLiteralsMeasured 65535 1000 ms (Some total)) (sym (r.2 ∙ ap (λ ms. b.front ++ ms) nothing ∙ append-nil b.front)) b.measured

-- from what is kept to the tidy form
pub tidied_measured : (c : Clause) (ls : List Literal) (answer : Option ℕ) → ls ≡ c.literals → ((kept : List Literal) → AreKept [] ls kept → AreLiteralsMeasured 65535 1000 kept answer) →
    (d : Clause) → IsTidied c d → AreLiteralsMeasured 65535 1000 d.literals answer
tidied_measured c ls answer is m d t =
    subst (λ ms. AreLiteralsMeasured 65535 1000 ms answer) (sym t.2)
    (measured_renumbered 65535 1000 t.0 answer (m t.0 (subst (λ ms. AreKept [] ms t.0) (sym is) t.1)))
