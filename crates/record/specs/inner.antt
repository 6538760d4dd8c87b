pub mod RecordSays
