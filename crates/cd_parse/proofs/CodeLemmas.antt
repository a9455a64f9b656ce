-- The answers of the code's parts, put together.
use Rattle.std.proofs.Common.{◌≡◌, ◌∙◌, ◌∷◌, ℕ, List, Option, Result, refl, sym, ap, subst}
use Rattle.cd_parse.specs.declared.terminal.Terminal.{Terminal}
use Rattle.cd_parse.specs.declared.tree.Tree.{Tree}
use Rattle.cd_parse.specs.declared.tree.Tree.TheVariants.{Var, App}
use Rattle.cd_parse.specs.declared.machine.Mode.{Mode}
use Rattle.cd_parse.specs.declared.machine.Held.{Held}
use Rattle.cd_parse.specs.declared.machine.Frame.{Frame}
use Rattle.cd_parse.specs.declared.machine.StepFault.{StepFault}
use Rattle.cd_parse.specs.Steps.{in_frame, var_step, app_step}
use Rattle.cd_parse.specs.Code.{state_of, Turns}

abbrev Answer : Type 0
Answer = Result (Option Mode) StepFault

-- a step inside a list of arguments depends neither on the mode nor on the lists around it
any_frames : (k : Mode) (h : Held) (gs : List Frame) (t : Tree) (f : Frame) (fs : List Frame) (u : Terminal)
    → in_frame (state_of k h) t f fs u ≡ in_frame (state_of k (record h { frames = gs })) t f fs u
any_frames k h gs t f fs t' = refl

pub var_in_frame : (n : Held) (r : Answer) (h : Held) (x : List ℕ) (f : Frame) (fs : List Frame) (u : Terminal) → h.frames ≡ f ∷ fs
    → ((k : Mode) → Turns n r (in_frame (state_of k (record h { frames = fs })) (Var x) f fs u)) → (k : Mode)
    → Turns n r (var_step (state_of k h) x h.frames u)
var_in_frame n r h x f fs u e t k =
    subst (λ (gs : List Frame). Turns n r (var_step (state_of k h) x gs u)) (sym e)
    (subst (Turns n r) (sym (any_frames k h fs (Var x) f fs u)) (t k))

pub app_in_frame : (n : Held) (r : Answer) (h : Held) (w : List ℕ) (args : List Tree) (f : Frame) (fs : List Frame) (u : Terminal)
    → h.frames ≡ f ∷ fs
    → ((k : Mode) → Turns n r (in_frame (state_of k (record h { frames = fs })) (App w args) f fs u)) → (k : Mode)
    → Turns n r (app_step (state_of k h) w args h.frames u)
app_in_frame n r h w args f fs u e t k =
    subst (λ (gs : List Frame). Turns n r (app_step (state_of k h) w args gs u)) (sym e)
    (subst (Turns n r) (sym (any_frames k h fs (App w args) f fs u)) (t k))

-- outside of all lists, in what is known of the frames and of the left side
pub var_alone_is : (k : Mode) (h : Held) (x : List ℕ) (u : Terminal) (fs : List Frame) (l : Option Tree) → h.frames ≡ fs → h.left ≡ l
    → var_step (state_of k h) x h.frames u ≡ var_step (state_of k (record h { left = l })) x fs u
var_alone_is k h x u fs l e f =
    ap (λ (gs : List Frame). var_step (state_of k h) x gs u) e
    ∙ ap (λ (o : Option Tree). var_step (state_of k (record h { left = o })) x fs u) f

pub app_alone_is : (k : Mode) (h : Held) (w : List ℕ) (args : List Tree) (u : Terminal) (fs : List Frame) (l : Option Tree)
    → h.frames ≡ fs → h.left ≡ l
    → app_step (state_of k h) w args h.frames u ≡ app_step (state_of k (record h { left = l })) w args fs u
app_alone_is k h w args u fs l e f =
    ap (λ (gs : List Frame). app_step (state_of k h) w args gs u) e
    ∙ ap (λ (o : Option Tree). app_step (state_of k (record h { left = o })) w args fs u) f
