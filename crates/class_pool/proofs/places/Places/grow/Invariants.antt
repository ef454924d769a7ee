-- So far there are as many numbers as the counter says, and the new ones are free.
use Rattle.std.proofs.Common.{◌≡◌, ℕ, ◌≤◌, ◌++◌, None, length, replicate}
use Rattle.class_pool.proofs.places.Places.grow.Given as goal

abbrev pub invariant-loop : goal.invariant-loop
invariant-loop l = record {
  more : (n : ℕ) × (l.self ≡ l.initial.self ++ replicate n None);
  long : length l.self ≡ l.counter;
  from : length l.initial.self ≤ l.counter;
  stays : l.len ≤ length l.initial.self → l.self ≡ l.initial.self;
}
