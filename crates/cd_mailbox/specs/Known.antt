-- What callers see of a pass.
-- Beyond the headline: no clause of `prove` reaches this file.
use Rattle.std.specs.Prelude.{◌≡◌, ℕ, ◌<◌, Option, None, List, [], ◌∷◌, ◌++◌, map, length, slice_index_or, slice_set, All}
use Rattle.std.specs.declared.alloc.Global.{Global}
use Rattle.atomic_blocks.specs.declared.web.Seat.{Seat}
use Rattle.crossbeam_queue.specs.SegTies.{SegId}
use Rattle.crossbeam_queue.specs.declared.seg_queue.Going.{Going}
use Rattle.cd_mailbox.specs.declared.rule.View.{View}
use Rattle.cd_mailbox.specs.Views.{letters_of, single, nothing, posted_in}
use Rattle.cd_mailbox.specs.Rule.{Stood}

-- Of which mailboxes it is, whose pass it is, what it posted to each of them, and what it took from its own; the oldest first.
pub record Known (L : Type 0) : Type 0 where
  pub boxes : List (SegId Global)
  pub peer : ℕ
  pub posted : List (List L)
  pub taken : List L

-- what the pass posted to the peer q
abbrev pub posted_to : {L : Type 0} → Known L → ℕ → List L
posted_to pass q = slice_index_or pass.posted q []

-- a pass that posted nothing and took nothing
abbrev pub fresh : {L : Type 0} → List (SegId Global) → ℕ → Known L
fresh boxes p = record { boxes = boxes; peer = p; posted = map (λ _. []) boxes; taken = [] }

-- the pass posted one letter more to the peer q
abbrev pub posting : {L : Type 0} → Known L → ℕ → L → Known L
posting pass q letter = record { boxes = pass.boxes; peer = pass.peer; posted = slice_set pass.posted q (posted_to pass q ++ letter ∷ []); taken = pass.taken }

-- the pass took one letter more
abbrev pub taking : {L : Type 0} → Known L → L → Known L
taking pass letter = record { boxes = pass.boxes; peer = pass.peer; posted = pass.posted; taken = pass.taken ++ letter ∷ [] }

-- At one moment the pass's own mailbox was empty: the mailbox's rule stood there with no letter, and the pass had taken
-- all that it had posted to itself.
pub record WasEmpty {L : Type 0} (sender receiver : L → ℕ) (pass : Known L) : Type 0 where
  pub own : letters_of sender pass.peer pass.taken ≡ posted_to pass pass.peer
  pub moment : Stood sender receiver (single (length pass.boxes) pass.peer pass.peer (posted_to pass pass.peer) pass.taken) []

-- ---- the seats of a pass, one at each mailbox

-- a pass of one mailbox
abbrev pub MailSeat : Type 0 → Type 0
MailSeat L = Seat (Option L) (Going L (View L)) Global

-- what it knows
abbrev pub seen : {L : Type 0} → MailSeat L → View L
seen s = s.me.view.client

-- of which mailbox it is
abbrev pub id_of : {L : Type 0} → MailSeat L → SegId Global
id_of s = record { web = s.web; heap = s.heap }

abbrev pub seen_at : {L : Type 0} → List (MailSeat L) → ℕ → View L
seen_at seats q = slice_index_or (map seen seats) q nothing

-- it carries nothing
abbrev pub IsIdle : {L : Type 0} → MailSeat L → Type 0
IsIdle s = (s.me.hand ≡ None) × (s.me.spare ≡ None)

-- the view of a pass with the number p alone
pub record IsSingle {L : Type 0} (peers owner p : ℕ) (v : View L) : Type 0 where
  pub posted : List L
  pub taken : List L
  pub is : v ≡ single peers owner p posted taken

-- a seat at each mailbox, with the number p alone
pub record IsWhole {L : Type 0} (p : ℕ) (seats : List (MailSeat L)) : Type 0 where
  pub below : p < length seats
  pub idle : All IsIdle seats
  pub each : (q : ℕ) → q < length seats → IsSingle (length seats) q p (seen_at seats q)

abbrev pub posted_by : {L : Type 0} → ℕ → MailSeat L → List L
posted_by p s = posted_in p (seen s).parts

abbrev pub known_of : {L : Type 0} → ℕ → List (MailSeat L) → Known L
known_of p seats = record { boxes = map id_of seats; peer = p; posted = map (posted_by p) seats; taken = (seen_at seats p).taken }
