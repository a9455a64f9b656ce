-- What a seat knows of the word, and how each kind of step changes it.
-- Beyond the headline: no clause of `prove` reaches this file.
use Rattle.std.specs.Prelude.{◌≡◌, ◌≢◌, ℕ, zero, suc, ◌+◌, ◌==◌, ◌||◌, ◌&&◌, Bool, true, false, cond, List, [], ◌∷◌, ◌++◌, All}
use Rattle.cd_verdict.specs.declared.rule.Mark.{Mark}
use Rattle.cd_verdict.specs.declared.rule.View.{View}

abbrev pub mark : ℕ → Bool → Mark
mark n b = record { number = n; marked = b }

abbrev pub view : ℕ → List Mark → List ℕ → List ℕ → View
view peers marks noted found = record { peers = peers; marks = marks; noted = noted; found = found }

-- ---- what a view says

abbrev pub has : ℕ → List Mark → Bool
has n [] = false
has n (x ∷ xs) = (x.number == n) || has n xs

-- the number n is marked, wherever it stands
abbrev pub is_marked : ℕ → List Mark → Bool
is_marked n [] = true
is_marked n (x ∷ xs) = cond (x.number == n) x.marked true && is_marked n xs

-- each word that was noted is this one, and not 0
abbrev pub AgreesWith : ℕ → List ℕ → Type 0
AgreesWith word noted = All (λ m. (m ≡ word) × (m ≢ 0)) noted

-- ---- views that come up by name

-- n numbers from a on, none of them marked
abbrev pub marks_from : ℕ → ℕ → List Mark
marks_from a zero = []
marks_from a (suc n) = mark a false ∷ marks_from (a + 1) n

abbrev pub newest : ℕ → View
newest peers = view peers (marks_from 0 peers) [] []

abbrev pub nothing : View
nothing = view 0 [] [] []

-- ---- load, compare and exchange

-- the seat notes the word that it found, unless it is 0
abbrev pub after_load : ℕ → View → View
after_load word v = view v.peers v.marks (cond (word == 0) v.noted (v.noted ++ word ∷ [])) v.found

abbrev pub mark_in : ℕ → List Mark → List Mark
mark_in n [] = []
mark_in n (x ∷ xs) = cond (x.number == n) (mark x.number true) x ∷ mark_in n xs

-- the seat found the word, and notes what it is now: its own, where it found 0
abbrev pub after_declare : ℕ → ℕ → View → View
after_declare n word v = view v.peers (mark_in n v.marks) (v.noted ++ cond (word == 0) (n + 1) word ∷ []) (v.found ++ word ∷ [])

-- ---- split

abbrev pub first_mark : List Mark → List Mark
first_mark [] = []
first_mark (x ∷ xs) = x ∷ []

abbrev pub other_marks : List Mark → List Mark
other_marks [] = []
other_marks (x ∷ xs) = xs

abbrev pub first_alone : View → View
first_alone v = view v.peers (first_mark v.marks) [] []

abbrev pub others : View → View
others v = view v.peers (other_marks v.marks) v.noted v.found

-- ---- join

abbrev pub joined : View → View → View
joined v w = view v.peers (v.marks ++ w.marks) (v.noted ++ w.noted) (v.found ++ w.found)
