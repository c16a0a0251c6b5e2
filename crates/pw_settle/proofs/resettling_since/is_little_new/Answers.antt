use Rattle.pw_settle.proofs.resettling_since.is_little_new.Goals as goal

pub returns-in-Some : goal.returns-in-Some
returns-in-Some g c little = (c.in-Some.arrivals.now, c.in-Some.ensures.some)
