use Rattle.pw_explain.proofs.WrittenBytes.{said}
use Rattle.pw_explain.proofs.explanation.write_explanation.Goals as goal

pub returns : goal.returns
returns g c =
    said c.args.explanation.now.near c.args.text.now.items c.extend_from_slice.new.self.items c.add.new.text.items c.add_near.new.text.items c.push.new.self.items
    c.in_ok-extend_from_slice.ensures.items c.in_ok-add.ensures c.in_ok-add_near.ensures c.in_ok-push.ensures.items
