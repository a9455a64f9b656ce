use Rattle.std.proofs.Common.{vec_len}
use Rattle.cd_mailbox.proofs.boxes.Boxes.drop.Given as goal

abbrev pub decreases-loop-queue : goal.decreases-loop-queue
decreases-loop-queue g l = vec_len l.queues
