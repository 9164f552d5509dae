use Rattle.std.proofs.Common.{◌≡◌, false, true}
use Rattle.scoop_link.proofs.Udp.{listed}
use Rattle.scoop_link.proofs.udp_link.UdpLinkLink.send.Goals as goal

pub returns-clause-unlisted : goal.returns-clause-unlisted
returns-clause-unlisted g c =
    let is = rw c.deref.ensures.value at c.in-Some.ensures in
    rw (← c.self.view_is) (listed c.self.inside.addresses.items c.args.to c.in-Some.address (false ≡ true) is)
