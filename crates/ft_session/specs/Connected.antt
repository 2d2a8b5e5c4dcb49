-- A replica that has a connection.
use Rattle.std.specs.Prelude.{◌≡◌, ℕ, Some}
use Rattle.ft_seqr.specs.World.{conn_of}
use Rattle.ft_session.specs.Worlds.{MemberState}

-- the replica has a connection
pub record HasConnection (m : MemberState) : Type 0 where
  pub conn : ℕ
  pub of : conn_of m.replica.client.link ≡ Some conn
