pub mod Lists
pub mod Taken
pub mod ToldFiles
pub mod Known
pub mod Completing
pub mod ToldDevices
pub mod Devices
pub mod PutLemmas
