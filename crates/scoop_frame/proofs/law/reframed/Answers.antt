use Rattle.std.proofs.Common.{◌≡◌, take, sym, ap, subst, ◌∙◌}
use Rattle.std.proofs.lemmas.List.{take_at}
use Rattle.scoop_message.specs.declared.message.Message.{Message}
use Rattle.scoop_frame.specs.declared.version.Version.{Version}
use Rattle.scoop_frame.specs.Frame.{frame, IsFrame}
use Rattle.scoop_frame.proofs.Exact.{frame_same}
use Rattle.scoop_frame.proofs.law.reframed.Goals as goal

pub returns-clause-read : goal.returns-clause-read
returns-clause-read c =
    let v = c.args.version in
    let m = c.args.message.now in
    let len = c.encode-len.result in
    let out = c.encode-len.new.out in
    let bytes : take len out ≡ frame v m = ap (take len) c.encode-len.ensures.bytes ∙ take_at (frame v m) _ len (sym c.encode-len.ensures.len) in
    (c.decode.ensures.ok v m).1 (subst (IsFrame v m) (sym bytes) c.encode-len.ensures.exact)

pub returns-clause-alone : goal.returns-clause-alone
returns-clause-alone c =
    let w = c.args.version in
    let x = c.args.message.now in
    let own = c.encode-len.ensures.exact in
    λ v m. (
      λ (f : IsFrame v m (frame w x)). frame_same v w m x f.carries own.carries f.range own.range (sym f.bytes_are),
      λ e. subst (λ (y : Version × Message). IsFrame y.0 y.1 (frame w x)) (sym e) own,
    )
