pub mod Outgoing
pub mod ClientState
pub mod Sends
pub mod SentStatements
pub mod PlainStatements
pub mod SentOtherwise
