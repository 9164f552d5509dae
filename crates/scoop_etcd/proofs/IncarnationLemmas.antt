-- Incarnations of clients, before and after a put.
use Rattle.std.proofs.Common.{◌≡◌, ℕ, ◌==◌, ◌^◌, ◌<◌, nat_lt, true, false, [], ◌∷◌, length, Option, Some, None, refl, sym, ap, arith, rules}
use Rattle.std.specs.Prelude.{if◌then◌else◌, option_map}
use Rattle.std.specs.Fmt.{decimal}
use Rattle.std.specs.List.{list_all}
use Rattle.std.specs.Str.Parse.{digits_value}
use Rattle.std.proofs.lemmas.Bool.{lt-ltb, ltb-true}
use Rattle.std.proofs.lemmas.Bool.Decides.{nat_tests}
use Rattle.std.proofs.lemmas.Fmt.{decimal_is_IsNumeral}
use Rattle.std.proofs.lemmas.Str.Parse.{IsDigitsTest, IsNumeralModel, numerals_by_value}
use Rattle.scoop_handler.proofs.Basics.{by_test}
use Rattle.scoop_lines.specs.Number.{is_digit}
use Rattle.scoop_keeper.specs.Keeper.{IsSame, Sets}
use Rattle.scoop_etcd.specs.Etcd.{Bytes, Contents, Kept, Puts, value_of}
use Rattle.scoop_etcd.specs.Keys.{client_key}
use Rattle.scoop_etcd.specs.Incarnation.{inc_of, incs_in}
use Rattle.scoop_etcd.proofs.KeyLemmas.{client_same}

digits_test : IsDigitsTest (λ ds. list_all is_digit ds ≡ true)
digits_test = search rules

digits_model : IsNumeralModel (λ ds. list_all is_digit ds ≡ true) (digits_value 10)
digits_model = numerals_by_value _ digits_test

some_length : (n : ℕ) → 0 < n → (n == 0) ≡ false
some_length n some = grind (arith, nat_tests)

-- the digits of an incarnation are read as it
inc_read : (n : ℕ) → n < 2 ^ 32 → inc_of (decimal n) ≡ n
inc_read n below =
    let ((some, all), value) = decimal_is_IsNumeral n (omega arith) in
    let digits = digits_model.from (decimal n) all in
    rw (some_length (length (decimal n)) some, digits, value, lt-ltb n (2 ^ 32) below) refl

-- the incarnation in what stands under a client's key
abbrev in_kept : ℕ → Option Kept → Option ℕ
in_kept client found = if nat_lt client (2 ^ 32) then option_map inc_of (value_of found) else None

-- clients whose keys stay keep their incarnations
pub same_incs : (name : Bytes) (old new : Contents) → ((client : ℕ) → new.under (client_key name client) ≡ old.under (client_key name client))
    → IsSame (incs_in name old) (incs_in name new)
same_incs name old new same = record { each = λ client. ap (in_kept client) (same client) }

pub put_inc : (name : Bytes) (old new : Contents) (client inc : ℕ) → client < 2 ^ 32 → inc < 2 ^ 32
    → Puts old new ((client_key name client, decimal inc) ∷ []) → Sets (incs_in name old) (incs_in name new) client inc
put_inc name old new client inc lt below puts = record {
  there = rw (lt-ltb client (2 ^ 32) lt, puts.there.0) (ap Some (inc_read inc below));
  others = λ other apart. by_test (λ t. nat_lt other (2 ^ 32) ≡ t → (if t then option_map inc_of (value_of (new.under (client_key name other))) else None)
      ≡ (if t then option_map inc_of (value_of (old.under (client_key name other))) else None)) (nat_lt other (2 ^ 32))
      (λ _ is. ap (λ found. option_map inc_of (value_of found)) (puts.others (client_key name other)
      ((λ e. apart (sym (client_same name client other lt (ltb-true other (2 ^ 32) is) e))), tt)))
      (λ _ _. refl) refl;
}
