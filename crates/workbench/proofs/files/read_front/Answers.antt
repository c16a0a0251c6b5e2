use Rattle.std.proofs.Common.{rules, ◌≡◌, []}
use Rattle.workbench.proofs.Fronts.{front_of_known}
use Rattle.workbench.proofs.files.read_front.Goals as goal

-- the take holds the reader and the limit, and there were no bytes before
pub returns : goal.returns
returns g c =
    let limit : c.take.result.limit ≡ 1048577 = search rules in
    let inner : c.take.result.inner ≡ c.args.reader = search rules in
    let nothing : c.new-bytes.result.items ≡ [] = search rules in
    let front = c.in_ok-read_to_end.ensures.bytes in
    front_of_known 1048577 c.read_to_end.new.buf.items (g.R.Read.remaining c.args.reader) (rw (limit, inner, nothing) at front)
