-- Names that are tested for equality.
use Rattle.std.proofs.Common.{◌≡◌, ◌≢◌, ℕ, ◌==◌, Bool, true, false, ◌&&◌, ap, ◌∙◌}
use Rattle.std.proofs.lemmas.Bool.{and_parts, and_right, eqb-true, ne_eqb}
use Rattle.cd_list.proofs.Numbers.{equal_itself}
use Rattle.cd_names.specs.declared.names.Name.{Name}
use Rattle.cd_names.specs.Names.{name_eq}

pub same_name : (n : Name) → name_eq n n ≡ true
same_name n = ap (λ (b : Bool). b && (n.seq == n.seq)) (equal_itself n.peer) ∙ equal_itself n.seq

pub same_parts : (a b : Name) → a.peer ≡ b.peer → a.seq ≡ b.seq → a ≡ b
same_parts a b peer seq = ap (λ (p : ℕ). record { peer = p; seq = a.seq }) peer ∙ ap (λ (s : ℕ). record { peer = b.peer; seq = s }) seq

pub equal_names : (a b : Name) → name_eq a b ≡ true → a ≡ b
equal_names a b h =
    let both = and_parts (a.peer == b.peer) (a.seq == b.seq) h in
    same_parts a b (eqb-true a.peer b.peer both.0) (eqb-true a.seq b.seq both.1)

-- names of two places are two
pub other_name : (a b : Name) → a.seq ≢ b.seq → name_eq a b ≡ false
other_name a b h = and_right (a.peer == b.peer) (a.seq == b.seq) (ne_eqb a.seq b.seq h)
