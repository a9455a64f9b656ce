-- What is read of terms, clauses and rules is formed.
use Rattle.std.proofs.Common.{◌≡◌, ℕ, zero, suc, ◌+◌, ◌-◌, ◌*◌, ◌^◌, ◌<◌, ◌≤◌, ◌==◌, ◌&&◌, Bool, true, false, cond, ltb, List, [], ◌∷◌, ◌++◌, length, map, codes, refl, sym, ap, ◌∙◌, subst, arith, Option, Some, None, ◌⊎◌, inl, inr, slice_get}
use Rattle.std.specs.Prelude.{IsTrue}
use Rattle.std.specs.List.{list_all, AllByRecursion}
use Rattle.std.proofs.lemmas.Bool.{ltb-true, lt-ltb, eqb-true, and_from}
use Rattle.std.proofs.lemmas.Bool.Decides.{nat_tests}
use Rattle.std.proofs.lemmas.List.{length-map}
use Rattle.cd_term.specs.declared.Term.{Term}
use Rattle.cd_term.specs.declared.Term.TheVariants.{Var, App}
use Rattle.cd_term.proofs.Equations.{fold-Var, fold-App}
use Rattle.cd_clause.specs.declared.Atom.{Atom}
use Rattle.cd_clause.specs.declared.Atom.TheVariants.{Truth, Pred, Equal}
use Rattle.cd_clause.specs.declared.Literal.{Literal}
use Rattle.cd_clause.specs.declared.Clause.{Clause}
use Rattle.cd_symbols.specs.Symbol.{Symbol, symbol_of}
use Rattle.cd_symbols.specs.declared.Kind.{Kind}
use Rattle.cd_symbols.specs.declared.Kind.TheVariants.{Function, Predicate}
use Rattle.cd_lex.specs.Bytes.{is_digit}
use Rattle.cd_read.specs.Formed.{formed_step, is_term_formed, AreTermsFormed, IsAtomFormed, IsClauseFormed}
use Rattle.cd_line.proofs.Symbols.{is_symbol}
use Rattle.cd_line.specs.declared.reading.Applied.{Applied}
use Rattle.cd_line.specs.Reading.{◌>>=◌, either, stripped, number_from, number_read, word_read, further_read, joined_read, kind_eq, symbol_found, place_of, variable_read, arguments_read, applied_read, made_term, applied_term_read, term_read, made_predicate, right_read, behind_variable, left_read, behind_applied, negative_read, atom_read, truth, literal_read, literals_read, clause_read}
use Rattle.cd_line.proofs.Symbols.{place_is}

-- ---- parts of a reading

pub record Bound {A B : Type 0} (o : Option A) (f : A → Option B) (y : B) : Type 0 where
  pub value : A
  pub is : o ≡ Some value
  pub then : f value ≡ Some y

pub bound : {A B : Type 0} (o : Option A) (f : A → Option B) (y : B) → (o >>= f) ≡ Some y → Bound o f y
bound None f y e = absurd cc
bound (Some x) f y e = record { value = x; is = refl; then = e }

pub chosen : {A B : Type 0} (o : Option A) (f : A → Option B) (other : Option B) (y : B) → either o f other ≡ Some y → Bound o f y ⊎ (other ≡ Some y)
chosen None f other y e = inr e
chosen (Some x) f other y e = inl (record { value = x; is = refl; then = e })

pub guarded : {A : Type 0} (t : Bool) (x y : A) → cond t (Some x) None ≡ Some y → (t ≡ true) × (x ≡ y)
guarded true x y e = (refl, cc)
guarded false x y e = absurd cc

-- ---- items

-- what holds of each item that is read holds of all of them
abbrev pub Gives : {A : Type 0} → (List ℕ → Option (A × List ℕ)) → (A → Type 0) → Type 0
Gives {A} read P = (text : List ℕ) (x : A × List ℕ) → read text ≡ Some x → P x.0

further_stops : {A : Type 0} (between : List ℕ) (read : List ℕ → Option (A × List ℕ)) (n : ℕ) (text : List ℕ) → stripped between text ≡ None → further_read between read n text ≡ Some ([], text)
further_stops between read zero text s = refl
further_stops between read (suc n) text s = rw s refl

further_goes : {A : Type 0} (between : List ℕ) (read : List ℕ → Option (A × List ℕ)) (n : ℕ) (text rest : List ℕ) → stripped between text ≡ Some rest
    → further_read between read (suc n) text ≡ (read rest >>= λ x. further_read between read n x.1 >>= λ ys. Some (x.0 ∷ ys.0, ys.1))
further_goes between read n text rest s = rw s refl

further_all : {A : Type 0} (P : A → Type 0) (between : List ℕ) (read : List ℕ → Option (A × List ℕ)) → Gives read P → (n : ℕ) (text : List ℕ) (o : Option (List ℕ)) (xs : List A × List ℕ) → stripped between text ≡ o → further_read between read n text ≡ Some xs → AllByRecursion P xs.0
further_all {A} P between read each zero text o xs s e = let k : ([], text) ≡ xs = cc in subst (λ (ys : List A × List ℕ). AllByRecursion P ys.0) k tt
further_all {A} P between read each (suc n) text None xs s e =
    let h : Some ([], text) ≡ Some xs = sym (further_stops between read (suc n) text s) ∙ e in
    let k : ([], text) ≡ xs = cc in
    subst (λ (ys : List A × List ℕ). AllByRecursion P ys.0) k tt
further_all {A} P between read each (suc n) text (Some rest) xs s e =
    let h : (read rest >>= λ x. further_read between read n x.1 >>= λ ys. Some (x.0 ∷ ys.0, ys.1)) ≡ Some xs = sym (further_goes between read n text rest s) ∙ e in
    let b = bound (read rest) (λ x. further_read between read n x.1 >>= λ ys. Some (x.0 ∷ ys.0, ys.1)) xs h in
    let c = bound (further_read between read n b.value.1) (λ ys. Some (b.value.0 ∷ ys.0, ys.1)) xs b.then in
    let k : (b.value.0 ∷ c.value.0, c.value.1) ≡ xs = (let g = c.then in cc) in
    subst (λ (ys : List A × List ℕ). AllByRecursion P ys.0) k (each rest b.value b.is, further_all P between read each n b.value.1 (stripped between b.value.1) c.value refl c.is)

pub record Joined {A : Type 0} (P : A → Type 0) (xs : List A) : Type 0 where
  pub all : AllByRecursion P xs
  pub some : 0 < length xs

pub joined_all : {A : Type 0} (P : A → Type 0) (between : List ℕ) (read : List ℕ → Option (A × List ℕ)) → Gives read P → (text : List ℕ) (xs : List A × List ℕ) → joined_read between read text ≡ Some xs → Joined P xs.0
joined_all {A} P between read each text xs e =
    let b = bound (read text) (λ x. further_read between read (length text) x.1 >>= λ ys. Some (x.0 ∷ ys.0, ys.1)) xs e in
    let c = bound (further_read between read (length text) b.value.1) (λ ys. Some (b.value.0 ∷ ys.0, ys.1)) xs b.then in
    let k : (b.value.0 ∷ c.value.0, c.value.1) ≡ xs = (let g = c.then in cc) in
    subst (λ (ys : List A × List ℕ). Joined P ys.0) k (record { all = (each text b.value b.is, further_all P between read each (length text) b.value.1 (stripped between b.value.1) c.value refl c.is); some = omega arith })

-- ---- numbers

number_by : (t u : Bool) (n b : ℕ) (bs : List ℕ) (x : ℕ × List ℕ) → is_digit b ≡ t → ltb (n * 10 + (b - 48)) (2 ^ 16) ≡ u → n < 65536
    → ((m : ℕ) → m < 65536 → number_from m bs ≡ Some x → x.0 < 65536)
    → cond t (cond u (number_from (n * 10 + (b - 48)) bs) None) (Some (n, b ∷ bs)) ≡ Some x → x.0 < 65536
number_by true true n b bs x d s small others e = others (n * 10 + (b - 48)) (ltb-true (n * 10 + (b - 48)) 65536 s) e
number_by true false n b bs x d s small others e = absurd cc
number_by false u n b bs x d s small others e = let k : (n, b ∷ bs) ≡ x = cc in subst (λ (y : ℕ × List ℕ). y.0 < 65536) k small

number_below : (n : ℕ) (text : List ℕ) (x : ℕ × List ℕ) → n < 65536 → number_from n text ≡ Some x → x.0 < 65536
number_below n [] x small e = let k : (n, []) ≡ x = cc in subst (λ (y : ℕ × List ℕ). y.0 < 65536) k small
number_below n (b ∷ bs) x small e = number_by (is_digit b) (ltb (n * 10 + (b - 48)) (2 ^ 16)) n b bs x refl refl small (λ m fits f. number_below m bs x fits f) e

pub number_small : (text : List ℕ) (x : ℕ × List ℕ) → number_read text ≡ Some x → x.0 < 65536
unfolding number_read
number_small text x e = number_below 0 text x (omega arith) e

-- ---- symbols

number_same : (n : ℕ) → (n == n) ≡ true
number_same n = grind (arith, nat_tests)

found_by : (t : Bool) (symbols : List Symbol) (kind : Kind) (word : List ℕ) (count n : ℕ) → cond t (place_of symbols (symbol_of word count kind)) None ≡ Some n → is_symbol kind count (slice_get symbols n) ≡ true
found_by true symbols Function word count n e = ap (is_symbol Function count) (place_is symbols (symbol_of word count Function) n e) ∙ number_same count
found_by true symbols Predicate word count n e = ap (is_symbol Predicate count) (place_is symbols (symbol_of word count Predicate) n e) ∙ number_same count
found_by false symbols kind word count n e = absurd cc

pub found_is : (symbols : List Symbol) (kind : Kind) (word : List ℕ) (count n : ℕ) → symbol_found symbols kind word count ≡ Some n → is_symbol kind count (slice_get symbols n) ≡ true
unfolding symbol_found
found_is symbols kind word count n e = found_by (ltb count 65536) symbols kind word count n e

-- ---- terms

all_formed : (symbols : List Symbol) (ts : List Term) → AreTermsFormed symbols ts → list_all (λ b. b) (map (is_term_formed symbols) ts) ≡ true
all_formed symbols [] each = refl
all_formed symbols (t ∷ ts) each = and_from (is_term_formed symbols t) (list_all (λ b. b) (map (is_term_formed symbols) ts)) each.0 (all_formed symbols ts each.1)

application_formed : (symbols : List Symbol) (f : ℕ) (ts : List Term) → is_symbol Function (length ts) (slice_get symbols f) ≡ true → AreTermsFormed symbols ts → is_term_formed symbols (App f ts) ≡ true
application_formed symbols f ts is each =
    fold-App Bool (formed_step symbols) f ts
    ∙ and_from (is_symbol Function (length (map (is_term_formed symbols) ts)) (slice_get symbols f)) (list_all (λ b. b) (map (is_term_formed symbols) ts))
    (ap (λ (n : ℕ). is_symbol Function n (slice_get symbols f)) (length-map ts (is_term_formed symbols)) ∙ is) (all_formed symbols ts each)

variable_formed : (symbols : List Symbol) (n : ℕ) → n < 65536 → is_term_formed symbols (Var n) ≡ true
variable_formed symbols n small = fold-Var Bool (formed_step symbols) n ∙ lt-ltb n 65536 small

abbrev pub Formed : List Symbol → Term → Type 0
Formed symbols t = is_term_formed symbols t ≡ true

arguments_formed : (symbols : List Symbol) (read : List ℕ → Option (Term × List ℕ)) → Gives read (Formed symbols) → (behind : List ℕ) (o : Option (List ℕ)) (x : List Term × List ℕ) → arguments_read read behind o ≡ Some x → AreTermsFormed symbols x.0
arguments_formed symbols read each behind None x e = let k : ([], behind) ≡ x = cc in subst (λ (y : List Term × List ℕ). AreTermsFormed symbols y.0) k tt
arguments_formed symbols read each behind (Some inner) x e =
    let b = bound (joined_read (codes ",") read inner) (λ ts. stripped (codes ")") ts.1 >>= λ rest. Some (ts.0, rest)) x e in
    let c = bound (stripped (codes ")") b.value.1) (λ rest. Some (b.value.0, rest)) x b.then in
    let k : (b.value.0, c.value) ≡ x = (let g = c.then in cc) in
    subst (λ (y : List Term × List ℕ). AreTermsFormed symbols y.0) k (joined_all (Formed symbols) (codes ",") read each inner b.value b.is).all

pub applied_formed : (symbols : List Symbol) (read : List ℕ → Option (Term × List ℕ)) → Gives read (Formed symbols) → Gives (applied_read read) (λ a. AreTermsFormed symbols a.args)
applied_formed symbols read each text x e =
    let b = bound (word_read text) (λ w. arguments_read read w.1 (stripped (codes "(") w.1) >>= λ a. Some (record { word = w.0; args = a.0 }, a.1)) x e in
    let c = bound (arguments_read read b.value.1 (stripped (codes "(") b.value.1)) (λ a. Some (record { word = b.value.0; args = a.0 }, a.1)) x b.then in
    let k : (record { word = b.value.0; args = c.value.0 }, c.value.1) ≡ x = (let g = c.then in cc) in
    subst (λ (y : Applied × List ℕ). AreTermsFormed symbols y.0.args) k (arguments_formed symbols read each b.value.1 (stripped (codes "(") b.value.1) c.value c.is)

pub made_formed : (symbols : List Symbol) (a : Applied) (t : Term) → AreTermsFormed symbols a.args → made_term symbols a ≡ Some t → Formed symbols t
made_formed symbols a t each e =
    let b = bound (symbol_found symbols Function a.word (length a.args)) (λ f. Some (App f a.args)) t e in
    let k : App b.value a.args ≡ t = (let g = b.then in cc) in
    subst (Formed symbols) k (application_formed symbols b.value a.args (found_is symbols Function a.word (length a.args) b.value b.is) each)

variable_given : (symbols : List Symbol) → Gives variable_read (Formed symbols)
variable_given symbols text x e =
    let b = bound (number_read text) (λ n. Some (Var n.0, n.1)) x e in
    let k : (Var b.value.0, b.value.1) ≡ x = (let g = b.then in cc) in
    subst (λ (y : Term × List ℕ). Formed symbols y.0) k (variable_formed symbols b.value.0 (number_small text b.value b.is))

applied_term_given : (symbols : List Symbol) (read : List ℕ → Option (Term × List ℕ)) → Gives read (Formed symbols) → Gives (applied_term_read symbols read) (Formed symbols)
applied_term_given symbols read each text x e =
    let b = bound (applied_read read text) (λ a. made_term symbols a.0 >>= λ t. Some (t, a.1)) x e in
    let c = bound (made_term symbols b.value.0) (λ t. Some (t, b.value.1)) x b.then in
    let k : (c.value, b.value.1) ≡ x = (let g = c.then in cc) in
    subst (λ (y : Term × List ℕ). Formed symbols y.0) k (made_formed symbols b.value.0 c.value (applied_formed symbols read each text b.value b.is) c.is)

pub term_given : (symbols : List Symbol) (levels : ℕ) → Gives (λ t. term_read symbols levels t) (Formed symbols)
term_given symbols zero text x e = absurd cc
term_given symbols (suc levels) text x e =
    elim (chosen (stripped (codes "X") text) variable_read (applied_term_read symbols (λ t. term_read symbols levels t) text) x e) [
      | inl b ↦ variable_given symbols b.value x b.then
      | inr other ↦ applied_term_given symbols (λ t. term_read symbols levels t) (term_given symbols levels) text x other
    ]

-- ---- literals

abbrev pub LiteralFormed : List Symbol → Literal → Type 0
LiteralFormed symbols l = IsAtomFormed symbols l.atom

predicate_formed : (symbols : List Symbol) (positive : Bool) (a : Applied) (l : Literal) → AreTermsFormed symbols a.args → made_predicate symbols positive a ≡ Some l → LiteralFormed symbols l
predicate_formed symbols positive a l each e =
    let b = bound (symbol_found symbols Predicate a.word (length a.args)) (λ p. Some (record { positive = positive; atom = Pred p a.args })) l e in
    let k : record { positive = positive; atom = Pred b.value a.args } ≡ l = (let g = b.then in cc) in
    subst (LiteralFormed symbols) k (found_is symbols Predicate a.word (length a.args) b.value b.is, each)

right_given : (symbols : List Symbol) (levels : ℕ) (positive : Bool) (left : Term) → Formed symbols left → Gives (right_read symbols levels positive left) (LiteralFormed symbols)
right_given symbols levels positive left ok text x e =
    let b = bound (term_read symbols levels text) (λ t. Some (record { positive = positive; atom = Equal left t.0 }, t.1)) x e in
    let k : (record { positive = positive; atom = Equal left b.value.0 }, b.value.1) ≡ x = (let g = b.then in cc) in
    subst (λ (y : Literal × List ℕ). LiteralFormed symbols y.0) k (ok, (term_given symbols levels text b.value b.is, tt))

behind_variable_given : (symbols : List Symbol) (levels : ℕ) (left : Term) → Formed symbols left → Gives (behind_variable symbols levels left) (LiteralFormed symbols)
unfolding behind_variable
behind_variable_given symbols levels left ok text x e =
    elim (chosen (stripped (codes " = ") text) (λ rest. right_read symbols levels true left rest) (either (stripped (codes " != ") text) (λ rest. right_read symbols levels false left rest) None) x e) [
      | inl b ↦ right_given symbols levels true left ok b.value x b.then
      | inr other ↦ elim (chosen (stripped (codes " != ") text) (λ rest. right_read symbols levels false left rest) None x other) [
        | inl b ↦ right_given symbols levels false left ok b.value x b.then
        | inr none ↦ absurd cc
      ]
    ]

left_given : (symbols : List Symbol) (levels : ℕ) (positive : Bool) (a : Applied) → AreTermsFormed symbols a.args → Gives (left_read symbols levels positive a) (LiteralFormed symbols)
left_given symbols levels positive a each text x e =
    let b = bound (made_term symbols a) (λ left. right_read symbols levels positive left text) x e in
    right_given symbols levels positive b.value (made_formed symbols a b.value each b.is) text x b.then

behind_applied_given : (symbols : List Symbol) (levels : ℕ) (a : Applied) → AreTermsFormed symbols a.args → Gives (behind_applied symbols levels a) (LiteralFormed symbols)
unfolding behind_applied
behind_applied_given symbols levels a each text x e =
    elim (chosen (stripped (codes " = ") text) (λ rest. left_read symbols levels true a rest)
    (either (stripped (codes " != ") text) (λ rest. left_read symbols levels false a rest) (made_predicate symbols true a >>= λ l. Some (l, text))) x e) [
      | inl b ↦ left_given symbols levels true a each b.value x b.then
      | inr other ↦ elim (chosen (stripped (codes " != ") text) (λ rest. left_read symbols levels false a rest) (made_predicate symbols true a >>= λ l. Some (l, text)) x other) [
        | inl b ↦ left_given symbols levels false a each b.value x b.then
        | inr last ↦
            let c = bound (made_predicate symbols true a) (λ l. Some (l, text)) x last in
            let k : (c.value, text) ≡ x = (let g = c.then in cc) in
            subst (λ (y : Literal × List ℕ). LiteralFormed symbols y.0) k (predicate_formed symbols true a c.value each c.is)
      ]
    ]

negative_given : (symbols : List Symbol) (levels : ℕ) → Gives (negative_read symbols levels) (LiteralFormed symbols)
unfolding negative_read
negative_given symbols levels text x e =
    let read : List ℕ → Option (Term × List ℕ) = λ t. term_read symbols levels t in
    let b = bound (applied_read read text) (λ a. made_predicate symbols false a.0 >>= λ l. Some (l, a.1)) x e in
    let c = bound (made_predicate symbols false b.value.0) (λ l. Some (l, b.value.1)) x b.then in
    let k : (c.value, b.value.1) ≡ x = (let g = c.then in cc) in
    subst (λ (y : Literal × List ℕ). LiteralFormed symbols y.0) k (predicate_formed symbols false b.value.0 c.value (applied_formed symbols read (term_given symbols levels) text b.value b.is) c.is)

atom_given : (symbols : List Symbol) (levels : ℕ) → Gives (atom_read symbols levels) (LiteralFormed symbols)
unfolding atom_read
atom_given symbols levels text x e =
    let read : List ℕ → Option (Term × List ℕ) = λ t. term_read symbols levels t in
    elim (chosen (stripped (codes "X") text) (λ rest. variable_read rest >>= λ v. behind_variable symbols (suc levels) v.0 v.1) (applied_read read text >>= λ a. behind_applied symbols (suc levels) a.0 a.1) x e) [
      | inl b ↦
          let c = bound (variable_read b.value) (λ v. behind_variable symbols (suc levels) v.0 v.1) x b.then in
          behind_variable_given symbols (suc levels) c.value.0 (variable_given symbols b.value c.value c.is) c.value.1 x c.then
      | inr other ↦
          let c = bound (applied_read read text) (λ a. behind_applied symbols (suc levels) a.0 a.1) x other in
          behind_applied_given symbols (suc levels) c.value.0 (applied_formed symbols read (term_given symbols levels) text c.value c.is) c.value.1 x c.then
    ]

truth_given : (symbols : List Symbol) (positive : Bool) (rest : List ℕ) (x : Literal × List ℕ) → Some (truth positive, rest) ≡ Some x → LiteralFormed symbols x.0
truth_given symbols positive rest x e = let k : (truth positive, rest) ≡ x = cc in subst (λ (y : Literal × List ℕ). LiteralFormed symbols y.0) k tt

pub literal_given : (symbols : List Symbol) (levels : ℕ) → Gives (λ t. literal_read symbols levels t) (LiteralFormed symbols)
unfolding literal_read
literal_given symbols levels text x e =
    let last = atom_read symbols levels text in
    let third = either (stripped (codes "~") text) (λ rest. negative_read symbols levels rest) last in
    let second = either (stripped (codes "$false") text) (λ rest. Some (truth false, rest)) third in
    elim (chosen (stripped (codes "$true") text) (λ rest. Some (truth true, rest)) second x e) [
      | inl b ↦ truth_given symbols true b.value x b.then
      | inr f ↦ elim (chosen (stripped (codes "$false") text) (λ rest. Some (truth false, rest)) third x f) [
        | inl b ↦ truth_given symbols false b.value x b.then
        | inr g ↦ elim (chosen (stripped (codes "~") text) (λ rest. negative_read symbols levels rest) last x g) [
          | inl b ↦ negative_given symbols levels b.value x b.then
          | inr h ↦ atom_given symbols levels text x h
        ]
      ]
    ]

-- ---- clauses

literals_given : (symbols : List Symbol) (levels : ℕ) → Gives (literals_read symbols levels) (IsClauseFormed symbols)
unfolding literals_read
literals_given symbols levels text x e =
    let read : List ℕ → Option (Literal × List ℕ) = λ t. literal_read symbols levels t in
    let a = bound (stripped (codes "(") text) (λ inner. joined_read (codes " | ") read inner >>= λ ls. stripped (codes ")") ls.1 >>= λ rest. Some (record { literals = ls.0 }, rest)) x e in
    let b = bound (joined_read (codes " | ") read a.value) (λ ls. stripped (codes ")") ls.1 >>= λ rest. Some (record { literals = ls.0 }, rest)) x a.then in
    let c = bound (stripped (codes ")") b.value.1) (λ rest. Some (record { literals = b.value.0 }, rest)) x b.then in
    let k : (record { literals = b.value.0 }, c.value) ≡ x = (let g = c.then in cc) in
    subst (λ (y : Clause × List ℕ). IsClauseFormed symbols y.0) k (joined_all (LiteralFormed symbols) (codes " | ") read (literal_given symbols levels) a.value b.value b.is).all

pub clause_given : (symbols : List Symbol) (levels : ℕ) → Gives (clause_read symbols levels) (IsClauseFormed symbols)
unfolding clause_read
clause_given symbols levels text x e =
    elim (chosen (stripped (codes "$false") text) (λ rest. Some (record { literals = [] }, rest)) (literals_read symbols levels text) x e) [
      | inl b ↦ let k : (record { literals = [] }, b.value) ≡ x = (let g = b.then in cc) in subst (λ (y : Clause × List ℕ). IsClauseFormed symbols y.0) k tt
      | inr other ↦ literals_given symbols levels text x other
    ]
