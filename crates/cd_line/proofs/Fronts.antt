-- What was read before, and what is still read.
use Rattle.std.proofs.Common.{◌≡◌, ℕ, zero, suc, ◌+◌, ◌-◌, ◌<◌, ◌≤◌, arith, List, [], ◌∷◌, ◌++◌, refl, sym, ap, ◌∙◌, append_assoc, Option, Some, None}
use Rattle.std.proofs.lemmas.List.{append-nil}
use Rattle.cd_line.specs.Reading.{◌>>=◌, with_first, with_front, stripped, further_read}

pub front_start : {A B : Type 0} (read : Option (List A × B)) → with_front [] read ≡ read
front_start (Some x) = refl
front_start None = refl

pub front_more : {B : Type 0} (front : List ℕ) (b : ℕ) (read : Option (List ℕ × B)) → with_front front (with_first b read) ≡ with_front (front ++ b ∷ []) read
front_more {B} front b (Some x) = ap (λ (l : List ℕ). Some (l, x.1)) (sym (append_assoc front (b ∷ []) x.0))
front_more front b None = refl

pub front_end : {A B : Type 0} (front : List A) (rest : B) → with_front front (Some ([], rest)) ≡ Some (front, rest)
front_end front rest = ap (λ (l : List _). Some (l, rest)) (append-nil front)

regroup : {A B : Type 0} (front : List A) (x : A) (read : Option (List A × B)) → with_front front (read >>= λ xs. Some (x ∷ xs.0, xs.1)) ≡ with_front (front ++ x ∷ []) read
regroup {A} {B} front x (Some r) = ap (λ (l : List A). Some (l, r.1)) (sym (append_assoc front (x ∷ []) r.0))
regroup front x None = refl

-- one more item is read
pub goes_on : {A : Type 0} (between : List ℕ) (read : List ℕ → Option (A × List ℕ)) (n i : ℕ) (front : List A) (text rest : List ℕ) (x : A) (after : List ℕ) (total : Option (List A × List ℕ)) → i < n
    → stripped between text ≡ Some rest → read rest ≡ Some (x, after)
    → with_front front (further_read between read (n - i) text) ≡ total → with_front (front ++ x ∷ []) (further_read between read (n - (i + 1)) after) ≡ total
goes_on between read n i front text rest x after total lt s r so_far =
    let k : n - i ≡ suc (n - (i + 1)) = omega arith in
    let one : with_front front (further_read between read (n - i) text) ≡ with_front (front ++ x ∷ []) (further_read between read (n - (i + 1)) after) =
    rw (k, s, r) (regroup front x (further_read between read (n - (i + 1)) after)) in
    sym one ∙ so_far

-- an item that isn't there
pub ends : {A : Type 0} (between : List ℕ) (read : List ℕ → Option (A × List ℕ)) (n i : ℕ) (front : List A) (text rest : List ℕ) (total : Option (List A × List ℕ)) → i < n
    → stripped between text ≡ Some rest → read rest ≡ None
    → with_front front (further_read between read (n - i) text) ≡ total → total ≡ None
ends between read n i front text rest total lt s r so_far =
    let k : n - i ≡ suc (n - (i + 1)) = omega arith in
    let one : with_front front (further_read between read (n - i) text) ≡ None = rw (k, s, r) refl in
    sym so_far ∙ one

stops_at : {A : Type 0} (between : List ℕ) (read : List ℕ → Option (A × List ℕ)) (n : ℕ) (text : List ℕ) → stripped between text ≡ None → further_read between read n text ≡ Some ([], text)
stops_at between read zero text s = refl
stops_at between read (suc n) text s = rw s refl

-- nothing stands between any more
pub stops : {A : Type 0} (between : List ℕ) (read : List ℕ → Option (A × List ℕ)) (n : ℕ) (front : List A) (text : List ℕ) (total : Option (List A × List ℕ))
    → stripped between text ≡ None → with_front front (further_read between read n text) ≡ total → total ≡ Some (front, text)
stops between read n front text total s so_far = sym so_far ∙ ap (with_front front) (stops_at between read n text s) ∙ front_end front text

pub runs_out : {A : Type 0} (between : List ℕ) (read : List ℕ → Option (A × List ℕ)) (n i : ℕ) (front : List A) (text : List ℕ) (total : Option (List A × List ℕ)) → n ≤ i
    → with_front front (further_read between read (n - i) text) ≡ total → total ≡ Some (front, text)
runs_out between read n i front text total le so_far =
    let k : n - i ≡ 0 = omega arith in
    sym so_far ∙ ap (λ (m : ℕ). with_front front (further_read between read m text)) k ∙ front_end front text
