use Rattle.std.proofs.Common.{◌≡◌, ◌++◌, ◌∷◌, [], List, ℕ, refl, ap, ◌∙◌, arith}
use Rattle.std.specs.Int.{w16, w32, to_be_bytes}
use borrow.Rule.Slice.PartMut.{put_mid}
use Rattle.scoop_frame.specs.Buffer.{overwritten}
use Rattle.scoop_frame.specs.Frame.{header}
use Rattle.scoop_frame.specs.Version.{version_byte}
use Rattle.scoop_frame.specs.Kind.{code}
use Rattle.scoop_frame.proofs.Writing.{overwritten_twice}
use Rattle.scoop_frame.proofs.header.put_header.Goals as goal

pub returns : goal.returns
unfolding header
returns c =
    let old = c.args.out.now in
    let f = c.args.fields.now in
    let d0 : List ℕ = 0x53 ∷ 0x51 ∷ version_byte f.version ∷ code f.kind ∷ [] in
    let x1 = to_be_bytes w32 f.handler.0 in
    let x2 = to_be_bytes w32 f.block.client.0 in
    let x3 = to_be_bytes w32 f.block.inc in
    let x4 = to_be_bytes w32 f.block.num in
    let x5 = to_be_bytes w32 f.number in
    let x6 = to_be_bytes w16 c.args.body_len in
    let e0 : put_mid 0 4 old c.copy_from_slice.new.self ≡ overwritten 0 d0 old =
    (let part = c.copy_from_slice.ensures.after ∙ ap (λ (k : ℕ). 0x53 ∷ 0x51 ∷ c.byte.result ∷ k ∷ []) c.code.ensures
    ∙ ap (λ (k : ℕ). 0x53 ∷ 0x51 ∷ k ∷ code f.kind ∷ []) c.byte.ensures in ap (put_mid 0 4 old) part) in
    let e1 = overwritten_twice 0 4 d0 x1 old c.put_u32.new.out (omega arith) refl (c.put_u32.ensures ∙ ap (overwritten 4 x1) e0) in
    let e2 = overwritten_twice 0 8 (d0 ++ x1) x2 old c.put_u32-2.new.out (omega arith) refl (c.put_u32-2.ensures ∙ ap (overwritten 8 x2) e1) in
    let e3 = overwritten_twice 0 12 (d0 ++ x1 ++ x2) x3 old c.put_u32-3.new.out (omega arith) refl (c.put_u32-3.ensures ∙ ap (overwritten 12 x3) e2) in
    let e4 = overwritten_twice 0 16 (d0 ++ x1 ++ x2 ++ x3) x4 old c.put_u32-4.new.out (omega arith) refl (c.put_u32-4.ensures ∙ ap (overwritten 16 x4) e3) in
    let e5 = overwritten_twice 0 20 (d0 ++ x1 ++ x2 ++ x3 ++ x4) x5 old c.put_u32-5.new.out (omega arith) refl
    (c.put_u32-5.ensures ∙ ap (overwritten 20 x5) e4) in
    overwritten_twice 0 24 (d0 ++ x1 ++ x2 ++ x3 ++ x4 ++ x5) x6 old c.put_u16.new.out (omega arith) refl (c.put_u16.ensures ∙ ap (overwritten 24 x6) e5)
