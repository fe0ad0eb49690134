-- A field whose key fits: of a message without lists, and of a HELLO.
-- Assumes nothing.
use mathlib.Core.Path.{◌≡◌, ap, ◌∙◌}
use mathlib.Core.Bool.{false}
use mathlib.Core.List.{List}
use Prim.Native.Nat.{ℕ}
use Rattle.std.specs.Prelude.{Result}
use Rattle.fault.specs.declared.Refusal.{Refusal}
use Rattle.wire.specs.Varint.{value, number_at}
use Rattle.wire.specs.Layout.{field_number, wire_type}
use Rattle.fields.specs.Schema.{Form, form_in, is_unknown, wrong_type}
use Rattle.fields.specs.Fields.{Fields, Marks, is_read, with_mark}
use Rattle.fields.specs.Steps.{ContentStep, HelloStep, PlainKey, hello_marks, hello_step, plain_step}
use Rattle.fields.specs.declared.hello.Field as hello
use Rattle.fields.specs.declared.hello.Found.{Found}
use Rattle.fields.specs.declared.plain.Field as plain
use Rattle.fields.proofs.OneField.{key_met}

module _ (message key : ℕ) (bytes : List ℕ) (behind_key : ℕ) (read : Marks) where
  -- The key is k's, of a form that has not been read.
  pub plain_met : (form : Form) (k : ℕ) → key ≡ k → form_in message (field_number k) ≡ form → is_unknown form ≡ false → wrong_type form (wire_type k) ≡ false → is_read form read ≡ false
      → (r : Result plain.Field Refusal) → ((f : Fields) (provers verifiers : List ℕ) → ContentStep form bytes behind_key (with_mark form f) provers verifiers (plain_step r f) provers verifiers)
      → PlainKey message key bytes behind_key read r
  plain_met form k q p n w u r s place e f m provers verifiers =
      key_met message bytes place f provers verifiers key behind_key e k q form p n w (ap (is_read form) m ∙ u) (plain_step r f) provers verifiers (s f provers verifiers)

module _ (bytes : List ℕ) (place key behind_key : ℕ) (e : number_at bytes place ≡ value key behind_key) (found : Found) where
  -- The same in a HELLO.
  pub hello_met : (form : Form) (k : ℕ) → key ≡ k → form_in 1 (field_number k) ≡ form → is_unknown form ≡ false → wrong_type form (wire_type k) ≡ false → is_read form (hello_marks found) ≡ false
      → (r : Result hello.Field Refusal) (provers verifiers provers' verifiers' : List ℕ)
      → ((f : Fields) → ContentStep form bytes behind_key (with_mark form f) provers verifiers (hello_step r f) provers' verifiers')
      → HelloStep bytes place found provers verifiers r provers' verifiers'
  hello_met form k q p n w u r provers verifiers provers' verifiers' s f m =
      key_met 1 bytes place f provers verifiers key behind_key e k q form p n w (ap (is_read form) m ∙ u) (hello_step r f) provers' verifiers' (s f)
