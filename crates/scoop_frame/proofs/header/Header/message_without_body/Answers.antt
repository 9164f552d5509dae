use Rattle.std.proofs.Common.{[], lit<, lit≤}
use Rattle.scoop_frame.specs.declared.kind.Kind.TheVariants as k
use Rattle.scoop_frame.proofs.Frames.{of_greeting, of_block, of_entry}
use Rattle.scoop_frame.proofs.header.Header.message_without_body.Goals as goal

pub returns-in-Hello : goal.returns-in-Hello
returns-in-Hello c =
    let is = of_greeting c.args.self.now k.Hello c.in-Hello.is c.requires.sound (lit< tt) in
    record { carries = tt; fits = is.0; range = is.1; bytes = is.2 }

pub returns-in-Welcome : goal.returns-in-Welcome
returns-in-Welcome c =
    let is = of_greeting c.args.self.now k.Welcome c.in-Welcome.is c.requires.sound (lit< tt) in
    record { carries = tt; fits = is.0; range = is.1; bytes = is.2 }

pub returns-in-Lock : goal.returns-in-Lock
returns-in-Lock c =
    let is = of_block c.args.self.now k.Lock c.in-Lock.is c.requires.sound (lit≤ tt) (lit< tt) in
    record { carries = tt; fits = is.0; range = is.1; bytes = is.2 }

pub returns-in-Locked : goal.returns-in-Locked
returns-in-Locked c =
    let is = of_block c.args.self.now k.Locked c.in-Locked.is c.requires.sound (lit≤ tt) (lit< tt) in
    record { carries = tt; fits = is.0; range = is.1; bytes = is.2 }

pub returns-in-Busy : goal.returns-in-Busy
returns-in-Busy c =
    let is = of_block c.args.self.now k.Busy c.in-Busy.is c.requires.sound (lit≤ tt) (lit< tt) in
    record { carries = tt; fits = is.0; range = is.1; bytes = is.2 }

pub returns-in-Open : goal.returns-in-Open
returns-in-Open c =
    let is = of_block c.args.self.now k.Open c.in-Open.is c.requires.sound (lit≤ tt) (lit< tt) in
    record { carries = tt; fits = is.0; range = is.1; bytes = is.2 }

pub returns-in-Opened : goal.returns-in-Opened
returns-in-Opened c =
    let is = of_block c.args.self.now k.Opened c.in-Opened.is c.requires.sound (lit≤ tt) (lit< tt) in
    record { carries = tt; fits = is.0; range = is.1; bytes = is.2 }

pub returns-in-Unlock : goal.returns-in-Unlock
returns-in-Unlock c =
    let is = of_block c.args.self.now k.Unlock c.in-Unlock.is c.requires.sound (lit≤ tt) (lit< tt) in
    record { carries = tt; fits = is.0; range = is.1; bytes = is.2 }

pub returns-in-Unlocked : goal.returns-in-Unlocked
returns-in-Unlocked c =
    let is = of_block c.args.self.now k.Unlocked c.in-Unlocked.is c.requires.sound (lit≤ tt) (lit< tt) in
    record { carries = tt; fits = is.0; range = is.1; bytes = is.2 }

pub returns-in-Logged : goal.returns-in-Logged
returns-in-Logged c =
    let is = of_entry c.args.self.now k.Logged c.in-Logged.is c.requires.sound (lit≤ tt) [] in
    record { carries = tt; fits = is.0; range = c.requires.sound.numbers; bytes = is.1 }
