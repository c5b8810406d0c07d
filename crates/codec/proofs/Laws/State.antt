-- The state in bytes (specs/State.antt): what is written of each count, and both round trips.
use mathlib.Core.Path.{◌≡◌, ap, ◌∙◌}
use mathlib.Core.List.{List, [], ◌∷◌, ◌++◌}
use Prim.Native.Nat.{ℕ, ◌/◌, ◌%◌}
use native.Mathlib.Nat.{mod-mod}
use lib.ListN.{length}
use lib.Pow.{field, mod-mod-pow}
use Rattle.tables.specs.declared.State.{State}
use Rattle.codec.specs.Bytes.{digits, bytes_of, over}
use Rattle.codec.specs.State.{counts, state_with, state_in, state_bytes}
use Rattle.codec.specs.Tables.{table_in, table_bytes, number, digits_2}
use Rattle.codec.proofs.Laws.Bytes.{Fits, bytes-length, entries-back}
use Rattle.codec.proofs.Laws.Tables.{entries-are, bytes-are_2}

-- two bytes of a number are those of its low 16 bits
low-digits : (n : ℕ) → digits 2 (n % 65536) ≡ digits 2 n
unfolding digits
low-digits n =
    let low : n % 65536 % 256 ≡ n % 256 = mod-mod-pow n 8 8 in
    let high : n % 65536 / 256 ≡ n / 256 % 256 = field n 8 8 in
    rw (low, high, mod-mod (n / 256) 256)

pub state-read : (bytes : List ℕ) {table : List ℕ} → table ≡ table_in number 2 8 bytes → state_with table ≡ state_in bytes
unfolding state_in
state-read bytes e = ap state_with (e ∙ entries-are 2 8 bytes)

pub state-written : (s : State) (out out₀ : List ℕ) {a b c d e f : ℕ}
    → a ≡ s.bound.0 % 65536 → b ≡ s.variables.0 % 65536 → c ≡ s.formula.0 % 65536 → d ≡ s.clauses.0 % 65536 → e ≡ s.steps.0 % 65536 → f ≡ s.empty.0 % 65536
    → out ≡ over (table_bytes digits_2 (a ∷ b ∷ s.universals ∷ c ∷ d ∷ s.literals ∷ e ∷ f ∷ [])) out₀ → out ≡ over (state_bytes s) out₀
unfolding state_bytes counts bytes_of
state-written s out out₀ {a} {b} {c} {d} {e} {f} p q r t u v w =
    w ∙ ap (λ l. over l out₀) (bytes-are_2 (a ∷ b ∷ s.universals ∷ c ∷ d ∷ s.literals ∷ e ∷ f ∷ [])) ∙ rw (p, q, r, t, u, v, low-digits s.bound.0, low-digits s.variables.0, low-digits s.formula.0, low-digits s.clauses.0, low-digits s.steps.0, low-digits s.empty.0)

pub state-length : (s : State) → length (state_bytes s) ≡ 16
unfolding state_bytes counts
state-length s = bytes-length 2 (counts s)

-- a state whose counts fit is read back
pub state-back : (s : State) (rest : List ℕ) → Fits 2 (counts s) → state_in (state_bytes s ++ rest) ≡ s
unfolding state_in state_bytes counts state_with
state-back s rest h = ap state_with (entries-back 2 (counts s) rest h)
