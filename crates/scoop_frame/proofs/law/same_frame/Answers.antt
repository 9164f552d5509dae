use Rattle.std.proofs.Common.{◌≡◌, take, sym, ap, ◌∙◌}
use Rattle.std.proofs.lemmas.Bool.Decides.{Decides-eqb}
use Rattle.std.proofs.lemmas.Slice.Eq.{slice_eq-Decides}
use Rattle.std.proofs.lemmas.List.{take_at}
use Rattle.scoop_frame.specs.Frame.{frame}
use Rattle.scoop_frame.proofs.Exact.{frame_same}
use Rattle.scoop_frame.proofs.law.same_frame.Goals as goal

pub returns-clause-bytes : goal.returns-clause-bytes
returns-clause-bytes c =
    let v = c.args.version in
    let w = c.args.other in
    let x = c.args.message.now in
    let y = c.args.second.now in
    let first : take c.encode-len.result c.encode-len.new.out ≡ frame v x = ap (take c.encode-len.result) c.encode-len.ensures.bytes
    ∙ take_at (frame v x) _ c.encode-len.result (sym c.encode-len.ensures.len) in
    let second : take c.encode-second_len.result c.encode-second_len.new.out ≡ frame w y =
    ap (take c.encode-second_len.result) c.encode-second_len.ensures.bytes
    ∙ take_at (frame w y) _ c.encode-second_len.result (sym c.encode-second_len.ensures.len) in
    let same = slice_eq-Decides Decides-eqb _ _ _ c.eq.ensures in (
      λ t. sym first ∙ same.0 t ∙ second,
      λ e. same.1 (first ∙ e ∙ sym second),
    )

pub returns-clause-exact : goal.returns-clause-exact
returns-clause-exact c =
    let p = c.encode-len.ensures.exact in
    let q = c.encode-second_len.ensures.exact in (
      λ e. frame_same c.args.version c.args.other c.args.message.now c.args.second.now p.carries q.carries p.range q.range e,
      λ e. ap (λ z. frame z.0 z.1) e,
    )
