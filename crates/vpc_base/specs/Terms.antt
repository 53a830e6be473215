-- The definitions that longer pages take, from one place.
pub use Rattle.vpc_base.specs.Cuts.{AreAmong, CutLists}
pub use Rattle.vpc_base.specs.Dir.{opposite, same_dir}
pub use Rattle.vpc_base.specs.Header.{IsBefore, echo_reply, exchanged, opening_of, order_of, reply_of}
