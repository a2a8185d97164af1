-- What the bounds of dense time and of tick time mean. Assumes nothing.
use Rattle.std.specs.Prelude.{ℕ, true, false, unsigned_abs, Option}
use Rattle.bound.specs.Time.{Meaning, Made}
use Rattle.bound.specs.Lifted.{Lifted, lifted_size}
use Rattle.bound.specs.declared.dense.DenseLimit.{DenseLimit}
use Rattle.bound.specs.declared.dense.DenseLimit.TheVariants.{Below, AtMost}
use Rattle.bound.specs.declared.ticks.TickLimit.{TickLimit}

abbrev pub DenseLimitAllows : DenseLimit → Meaning
DenseLimitAllows (Below n) = Made n true
DenseLimitAllows (AtMost n) = Made n false

abbrev pub dense_limit_size : DenseLimit → ℕ
dense_limit_size (Below n) = unsigned_abs n
dense_limit_size (AtMost n) = unsigned_abs n

abbrev pub DenseAllows : Option DenseLimit → Meaning
DenseAllows = Lifted DenseLimitAllows

abbrev pub dense_size : Option DenseLimit → ℕ
dense_size = lifted_size dense_limit_size

abbrev pub TickLimitAllows : TickLimit → Meaning
TickLimitAllows a = Made a.number false

abbrev pub tick_limit_size : TickLimit → ℕ
tick_limit_size a = unsigned_abs a.number

abbrev pub TicksAllows : Option TickLimit → Meaning
TicksAllows = Lifted TickLimitAllows

abbrev pub ticks_size : Option TickLimit → ℕ
ticks_size = lifted_size tick_limit_size
