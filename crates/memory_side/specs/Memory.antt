-- What objects in memory hold, and which of their calls fail.
use Rattle.std.specs.Prelude.{ℕ, ◌+◌, Bool, if◌then◌else◌, nat_lt, ◌==◌, List, length, min, Option, Some, None}
use Rattle.std.specs.List.{list_any}
use Rattle.agg_outside.specs.Links.{Closed}

-- the bytes that a source has left, and the most that it gives in a call
pub record Supply : Type 0 where
  pub left : List ℕ
  pub most : ℕ

-- how many bytes a call with room for so many gives
abbrev pub given_count : ℕ → Supply → ℕ
given_count room supply = min (min room supply.most) (length supply.left)

-- the calls so far, the numbers of those that fail, and how many failed
pub record CallCount : Type 0 where
  pub calls : ℕ
  pub fails : List ℕ
  pub faults : ℕ

-- the count with one more, which stays at the last value of a counter
abbrev pub one_more : ℕ → ℕ
one_more count = if nat_lt count 18446744073709551615 then count + 1 else count

-- the number of the next call is among those that fail
abbrev pub fails_next : CallCount → Bool
fails_next count = list_any (λ number. number == one_more count.calls) count.fails

-- after the next call
abbrev pub called : CallCount → CallCount
called count = record {
  calls = one_more count.calls;
  fails = count.fails;
  faults = if fails_next count then one_more count.faults else count.faults;
}

-- a source that fails at calls
pub record FailingSupply : Type 0 where
  pub supply : Supply
  pub count : CallCount

-- a sink that fails at calls, and the bytes that were written to it
pub record FailingSink : Type 0 where
  pub bytes : List ℕ
  pub count : CallCount

-- what doors tell: the port and the number of links that were listened for, how many links were given
-- out and taken back since, the inputs that are left, and the links taken back since
pub record DoorsTold : Type 0 where
  pub port : ℕ
  pub links : ℕ
  pub given : ℕ
  pub taken : ℕ
  pub left : List (List ℕ)
  pub back : List Closed

-- what the closed link had written, where it tells that
abbrev pub written_by : Option Closed → Option (List ℕ)
written_by None = None
written_by (Some link) = link.written
