use Rattle.std.proofs.Common.{◌≡◌, List, ℕ, [], ◌∷◌, ◌++◌, true, length, drop, get_or, refl, sym, ap, arith}
use Rattle.std.proofs.lemmas.Slice.Eq.{starts_is}
use Rattle.std.proofs.lemmas.Bool.Decides.{Decides-eqb}
use Rattle.std.proofs.lemmas.List.{length-drop}
use Rattle.scoop_frame.specs.Kind.{code}
use Rattle.scoop_frame.proofs.Bytes.{IsBytes, header_is}
use Rattle.scoop_frame.proofs.header.read_header.Goals as goal

pub returns-clause-ok : goal.returns-clause-ok
returns-clause-ok c =
    let b = c.args.bytes.now in
    let bytes : IsBytes b = λ i. omega (arith, c.type_inv.bytes i) in
    let len : length (drop 26 b) ≡ c.u16_at.result = omega (arith, length-drop 26 b, c.from.ensures) in
    let magic : b ≡ (0x53 ∷ 0x51 ∷ []) ++ drop 2 b = (starts_is Decides-eqb b (0x53 ∷ 0x51 ∷ []) true c.if-not-starts_with.ensures.value).0 refl in
    record {
      bytes = header_is b c.in-Some.version (code c.in-Some-from_code.kind)
          c.u32_at.result c.u32_at-2.result c.u32_at-3.result c.u32_at-4.result c.u32_at-5.result (length (drop 26 b)) bytes (omega arith)
          (ap (λ (s : List ℕ). get_or s 0 0) magic) (ap (λ (s : List ℕ). get_or s 1 0) magic) (sym c.in-Some.ensures) (sym c.in-Some-from_code.ensures)
          c.u32_at.ensures c.u32_at-2.ensures c.u32_at-3.ensures c.u32_at-4.ensures c.u32_at-5.ensures (omega (arith, len, c.u16_at.ensures));
      body = omega (arith, len);
      long = omega arith;
      numbers = record {
        block = record {
          client = record { handler = omega arith; client = omega arith; incarnation = omega arith };
          num = omega arith;
        };
        number = omega arith;
      };
    }
