use Rattle.std.proofs.Common.{length}
use Rattle.pw_info.proofs.member_text.+read_names.Given as goal

-- the text falls
abbrev pub decreases-read_names : goal.decreases-read_names
decreases-read_names g l = length l.text.now
