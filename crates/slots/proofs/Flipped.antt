-- A byte and its bits inverted. Assumes nothing.
use Prim.Native.Nat.{ℕ, zero, suc, ◌-◌, ◌/◌, ◌%◌, ◌^◌, ◌<◌}
use mathlib.Core.Path.{◌≡◌}
use native.Mathlib.Omega.{arith}

-- a flipped byte has each bit flipped
pub flipped_bit : (k v : ℕ) → k < 8 → v < 256 → (255 - v) / 2 ^ k % 2 ≡ 1 - v / 2 ^ k % 2
flipped_bit zero v h b = omega arith
flipped_bit (suc zero) v h b = omega arith
flipped_bit (suc (suc zero)) v h b = omega arith
flipped_bit (suc (suc (suc zero))) v h b = omega arith
flipped_bit (suc (suc (suc (suc zero)))) v h b = omega arith
flipped_bit (suc (suc (suc (suc (suc zero))))) v h b = omega arith
flipped_bit (suc (suc (suc (suc (suc (suc zero)))))) v h b = omega arith
flipped_bit (suc (suc (suc (suc (suc (suc (suc zero))))))) v h b = omega arith
flipped_bit (suc (suc (suc (suc (suc (suc (suc (suc k)))))))) v h b = absurd (omega arith)
