use Rattle.std.proofs.Common.{refl, sym, ap, subst, ◌∙◌}
use Rattle.std.proofs.lemmas.List.{take_rest}
use Rattle.scoop_frame.specs.Header.{framed, IsSound, HasItsBody}
use Rattle.scoop_frame.proofs.Refusals.{is_not_zero, is_zero, is_bad_body}
use Rattle.scoop_frame.proofs.decoding.read.Goals as goal

pub returns-then-has_unused : goal.returns-then-has_unused
returns-then-has_unused c = is_not_zero c.args.bytes.now c.in_ok-header.header c.in_ok-header.ensures.ok (c.if-has_unused.ensures.0 refl)

pub returns-then-lacks_number : goal.returns-then-lacks_number
returns-then-lacks_number c = is_zero c.args.bytes.now c.in_ok-header.header c.in_ok-header.ensures.ok (λ u. let f = c.if-has_unused.ensures.1 u in cc)
    (c.if-lacks_number.ensures.0 refl)

pub returns-in-None : goal.returns-in-None
returns-in-None c =
    let b = c.args.bytes.now in
    let h = c.in_ok-header.header in
    let sound : IsSound h = record {
      numbers = c.in_ok-header.ensures.ok.numbers;
      unused = λ u. let f = c.if-has_unused.ensures.1 u in cc;
      lacking = λ l. let f = c.if-lacks_number.ensures.1 l in cc;
    } in
    is_bad_body b h c.in_ok-header.ensures.ok sound (λ body. c.in-None.ensures (subst (HasItsBody h) (sym (take_rest b 26)) body))

pub returns-in-Some : goal.returns-in-Some
returns-in-Some c =
    let b = c.args.bytes.now in
    let h = c.in_ok-header.header in
    let is = c.in-Some.ensures in
    record {
      carries = is.carries;
      fits = is.fits;
      range = is.range;
      bytes_are = c.in_ok-header.ensures.ok.bytes ∙ ap (framed h) (sym (take_rest b 26)) ∙ sym is.bytes;
    }
