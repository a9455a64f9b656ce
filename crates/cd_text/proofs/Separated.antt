-- Items that are joined: the first, and then the others, each with what stands before it.
use Rattle.std.proofs.Common.{◌≡◌, ℕ, ◌+◌, ◌-◌, ◌<◌, ◌≤◌, Bool, true, false, cond, List, [], ◌∷◌, ◌++◌, codes, length, map, take, drop, get_or, refl, sym, ap, ◌∙◌, append_assoc, append-nil, arith}
use Rattle.std.specs.List.{flat_map}
use Rattle.std.proofs.lemmas.List.{take_more, take_all, map-append}
use Rattle.std.proofs.lemmas.Grind.{flat_map-append}
use Rattle.std.proofs.lemmas.List.Concat.{flat_map-cons}
use Rattle.std.proofs.Math.Seq.{take-length}
use Rattle.cd_text.specs.Texts.{separated, arguments_text}

pub separated_first : {A : Type 0} (between : List ℕ) (text : A → List ℕ) (x : A) (xs : List A)
    → separated between text (x ∷ xs) ≡ text x ++ flat_map (λ y. between ++ text y) xs
separated_first between text x [] = sym (append-nil (text x))
separated_first between text x (y ∷ ys) =
    ap (λ (t : List ℕ). text x ++ (between ++ t)) (separated_first between text y ys)
    ∙ ap (λ (t : List ℕ). text x ++ t) (sym (append_assoc between (text y) (flat_map (λ z. between ++ text z) ys)) ∙ sym (flat_map-cons (λ z. between ++ text z) y ys))

-- one item more at the end
joined_more : (between : List ℕ) (t : List ℕ) (ts : List (List ℕ)) (u : List ℕ)
    → separated between (λ text. text) (t ∷ (ts ++ u ∷ [])) ≡ separated between (λ text. text) (t ∷ ts) ++ (between ++ u)
joined_more between t [] u = refl
joined_more between t (v ∷ ts) u =
    ap (λ (x : List ℕ). t ++ (between ++ x)) (joined_more between v ts u)
    ∙ simp append_assoc

pub separated_map : {A : Type 0} (between : List ℕ) (text : A → List ℕ) (x : A) (xs : List A)
    → separated between (λ t. t) (map text (x ∷ xs)) ≡ separated between text (x ∷ xs)
separated_map between text x [] = refl
separated_map between text x (y ∷ ys) = ap (λ (t : List ℕ). text x ++ (between ++ t)) (separated_map between text y ys)

arguments_joined : {A : Type 0} (text : A → List ℕ) (x : A) (xs : List A)
    → arguments_text (map text (x ∷ xs)) ≡ codes "(" ++ (separated (codes ",") text (x ∷ xs) ++ codes ")")
arguments_joined text x xs = ap (λ (t : List ℕ). codes "(" ++ (t ++ codes ")")) (separated_map (codes ",") text x xs)

-- arguments stand between parentheses, with commas
pub arguments_enclosed : {A : Type 0} (text : A → List ℕ) (x : A) (xs : List A) (start opened put new : List ℕ) → 1 ≤ length xs → x ≡ get_or xs 0 x
    → opened ≡ start ++ codes "(" → put ≡ opened ++ separated (codes ",") text (x ∷ take (length xs - 1) (drop 1 xs)) → new ≡ put ++ codes ")" → new ≡ start ++ arguments_text (map text xs)
arguments_enclosed text x [] start opened put new some at o p n = absurd (omega arith)
arguments_enclosed text x (y ∷ ys) start opened put new some at o p n =
    let middle = separated (codes ",") text (y ∷ ys) in
    let count : length (y ∷ ys) - 1 ≡ length ys = omega arith in
    let others : take (length (y ∷ ys) - 1) ys ≡ ys = ap (λ n. take n ys) count ∙ take-length ys in
    let same : separated (codes ",") text (x ∷ take (length (y ∷ ys) - 1) ys) ≡ middle = ap (λ zs. separated (codes ",") text (x ∷ zs)) others ∙ ap (λ z. separated (codes ",") text (z ∷ ys)) at in
    n ∙ ap (λ (t : List ℕ). t ++ codes ")") (p ∙ ap (λ (t : List ℕ). opened ++ t) same ∙ ap (λ (t : List ℕ). t ++ middle) o)
    ∙ append_assoc (start ++ codes "(") middle (codes ")") ∙ append_assoc start (codes "(") (middle ++ codes ")")
    ∙ ap (λ (t : List ℕ). start ++ t) (sym (arguments_joined text y ys))

-- what stands between those parentheses
pub arguments_are : {A : Type 0} (text : A → List ℕ) (x : A) (xs : List A) → 1 ≤ length xs → x ≡ get_or xs 0 x
    → arguments_text (map text xs) ≡ codes "(" ++ (separated (codes ",") text (x ∷ take (length xs - 1) (drop 1 xs)) ++ codes ")")
arguments_are text x xs some at =
    let middle = separated (codes ",") text (x ∷ take (length xs - 1) (drop 1 xs)) in
    sym (arguments_enclosed text x xs [] (codes "(") (codes "(" ++ middle) ((codes "(" ++ middle) ++ codes ")") some at refl refl refl)

-- ---- arguments, one after another

pub is_none : {A : Type 0} → List A → Bool
is_none [] = true
is_none (x ∷ xs) = false

-- the text of the first arguments
pub begun : List (List ℕ) → List ℕ
begun [] = []
begun (t ∷ ts) = codes "(" ++ separated (codes ",") (λ text. text) (t ∷ ts)

pub begun_by : (ts : List (List ℕ)) (u : List ℕ) → begun (ts ++ u ∷ []) ≡ begun ts ++ (cond (is_none ts) (codes "(") (codes ",") ++ u)
unfolding begun is_none
begun_by [] u = refl
begun_by (t ∷ ts) u = ap (λ (x : List ℕ). codes "(" ++ x) (joined_more (codes ",") t ts u)

pub none_map : {A : Type 0} (text : A → List ℕ) (xs : List A) → is_none (map text xs) ≡ is_none xs
unfolding is_none
none_map text [] = refl
none_map text (x ∷ xs) = refl

some_behind : {A : Type 0} (xs : List A) (y : A) → is_none (xs ++ y ∷ []) ≡ false
unfolding is_none
some_behind [] y = refl
some_behind (x ∷ xs) y = refl

pub none_yet : (A : Type 0) → true ≡ is_none {A = A} []
unfolding is_none
none_yet A = refl

pub some_more : {A : Type 0} (xs : List A) (i : ℕ) (d : A) → i < length xs → false ≡ is_none (take (i + 1) xs)
some_more xs i d lt = sym (ap is_none (take_more xs i d lt) ∙ some_behind (take i xs) (get_or xs i d))

pub begun_yet : (start : List ℕ) → start ≡ start ++ begun []
unfolding begun
begun_yet start = sym (append-nil start)

-- one argument more
pub begun_more : {A : Type 0} (text : A → List ℕ) (xs : List A) (i : ℕ) (x : A) (start so_far front new : List ℕ) (first : Bool) → i < length xs → x ≡ get_or xs i x
    → so_far ≡ start ++ begun (map text (take i xs)) → first ≡ is_none (take i xs)
    → front ≡ so_far ++ cond first (codes "(") (codes ",") → new ≡ front ++ text x → new ≡ start ++ begun (map text (take (i + 1) xs))
begun_more text xs i x start so_far front new first lt at printed is opened put =
    let items = map text (take i xs) in
    let mark = λ (b : Bool). cond b (codes "(") (codes ",") in
    let next : map text (take (i + 1) xs) ≡ items ++ text x ∷ [] =
    ap (map text) (take_more xs i x lt) ∙ map-append text (take i xs) (get_or xs i x ∷ []) ∙ ap (λ y. items ++ text y ∷ []) (sym at) in
    let same : mark first ≡ mark (is_none items) = ap mark (is ∙ sym (none_map text (take i xs))) in
    put ∙ ap (λ (t : List ℕ). t ++ text x) (opened ∙ ap (λ (t : List ℕ). t ++ mark first) printed ∙ ap (λ (t : List ℕ). (start ++ begun items) ++ t) same)
    ∙ append_assoc (start ++ begun items) (mark (is_none items)) (text x)
    ∙ append_assoc start (begun items) (mark (is_none items) ++ text x)
    ∙ ap (λ (t : List ℕ). start ++ t) (sym (begun_by items (text x)) ∙ ap begun (sym next))

pub begun_end : (ts : List (List ℕ)) → begun ts ++ cond (is_none ts) [] (codes ")") ≡ arguments_text ts
unfolding begun is_none
begun_end [] = refl
begun_end (t ∷ ts) = refl

-- items that follow others, each with a comma before it
pub further : List (List ℕ) → List ℕ
further ts = flat_map (λ t. codes "," ++ t) ts

-- the text of some arguments begins with those of the first
pub begun_behind : (ts us : List (List ℕ)) → is_none ts ≡ false → arguments_text (ts ++ us) ≡ begun ts ++ (further us ++ codes ")")
unfolding begun is_none further
begun_behind [] us some = absurd (cc some)
begun_behind (t ∷ ts) us some =
    let others = further us in
    let inside : separated (codes ",") (λ text. text) (t ∷ (ts ++ us)) ≡ separated (codes ",") (λ text. text) (t ∷ ts) ++ others =
    separated_first (codes ",") (λ text. text) t (ts ++ us)
    ∙ ap (λ (x : List ℕ). t ++ x) (flat_map-append (λ u. codes "," ++ u) ts us)
    ∙ sym (append_assoc t (further ts) others)
    ∙ ap (λ (x : List ℕ). x ++ others) (sym (separated_first (codes ",") (λ text. text) t ts)) in
    ap (λ (x : List ℕ). codes "(" ++ (x ++ codes ")")) inside
    ∙ ap (λ (x : List ℕ). codes "(" ++ x) (append_assoc (separated (codes ",") (λ text. text) (t ∷ ts)) others (codes ")"))

-- all of them
pub arguments_end : {A : Type 0} (text : A → List ℕ) (xs ys : List A) (i : ℕ) (start so_far new : List ℕ) (first : Bool) → length xs ≤ i → xs ≡ ys
    → so_far ≡ start ++ begun (map text (take i xs)) → first ≡ is_none (take i xs)
    → new ≡ so_far ++ cond first [] (codes ")") → new ≡ start ++ arguments_text (map text ys)
arguments_end text xs ys i start so_far new first le is printed none put =
    let end = λ (b : Bool). cond b [] (codes ")") in
    let all : take i xs ≡ ys = take_all i xs le ∙ is in
    let items = map text ys in
    let same : end first ≡ end (is_none items) = ap end (none ∙ ap is_none all ∙ sym (none_map text ys)) in
    put ∙ ap (λ (t : List ℕ). t ++ end first) (printed ∙ ap (λ x. start ++ begun (map text x)) all) ∙ ap (λ (t : List ℕ). (start ++ begun items) ++ t) same
    ∙ append_assoc start (begun items) (end (is_none items)) ∙ ap (λ (t : List ℕ). start ++ t) (begun_end items)
