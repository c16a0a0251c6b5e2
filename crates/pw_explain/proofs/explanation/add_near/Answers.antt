use Rattle.pw_explain.proofs.WrittenBytes.{named}
use Rattle.pw_explain.proofs.explanation.add_near.Goals as goal

pub returns : goal.returns
returns g c =
    named c.args.near c.in-Some.name c.args.text.now.items c.extend_from_slice.new.self.items c.extend_from_slice-2.new.self.items c.push.new.self.items
    c.in-Some.is c.in_ok-extend_from_slice.ensures.items c.in_ok-extend_from_slice-2.ensures.items c.in_ok-push.ensures.items
