use Rattle.std.proofs.Common.{◌≡◌, ℕ, List, ◌-◌, length, refl, sym, ap, ◌∙◌, arith}
use Rattle.std.proofs.lemmas.List.{length-append}
use Rattle.scoop_frame.specs.Buffer.{overwritten, written}
use Rattle.scoop_frame.specs.Frame.{header, body_of}
use Rattle.scoop_frame.specs.Kind.{code}
use Rattle.scoop_frame.proofs.Frames.{length-header}
use Rattle.scoop_frame.proofs.Writing.{body_behind}
use Rattle.scoop_frame.proofs.encoding.encode.Goals as goal

pub returns-clause-bytes : goal.returns-clause-bytes
returns-clause-bytes c =
    let old = c.args.out.now in
    let h = c.header_of.result in
    let body = body_of c.args.version c.args.message.now in
    let head = λ (n : ℕ). header h.version (code h.kind) h.handler h.block h.number n in
    let len : c.put_body-end.result - 26 ≡ length body = omega (arith, c.put_body-end.ensures.end) in
    let put : c.put_header.new.out ≡ overwritten 0 (head (length body)) c.put_body-end.new.out = c.put_header.ensures
    ∙ ap (λ (n : ℕ). overwritten 0 (head n) c.put_body-end.new.out) len in
    body_behind (head (length body)) body old c.put_body-end.new.out c.put_header.new.out
    (length-header h.version (code h.kind) h.handler h.block h.number (length body)) (omega arith) c.put_body-end.ensures.bytes put
    ∙ ap (λ (xs : List ℕ). written xs old) (sym c.header_of.ensures.bytes)

pub returns-clause-len : goal.returns-clause-len
returns-clause-len c =
    let h = c.header_of.result in
    let body = body_of c.args.version c.args.message.now in
    let head = header h.version (code h.kind) h.handler h.block h.number (length body) in
    omega (
      arith,
      c.put_body-end.ensures.end,
      ap length c.header_of.ensures.bytes,
      length-append head body,
      length-header h.version
          (code h.kind) h.handler h.block h.number (length body),
    )

pub returns-clause-exact : goal.returns-clause-exact
returns-clause-exact c = record {
  carries = c.requires.carried;
  fits = c.requires.fits;
  range = c.header_of.ensures.range c.put_body-end.ensures.range;
  bytes_are = refl;
}
